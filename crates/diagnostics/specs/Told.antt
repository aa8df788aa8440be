-- What is told of a reason on the error stream.
use Rattle.std.specs.Prelude.{ℕ, ◌≡◌, ◌==◌, false, List, [], ◌∷◌, ◌++◌, codes, Option, Some, None}
use Rattle.std.specs.List.{list_any}
use Rattle.std.specs.Fmt.{decimal}
use Rattle.std.specs.Io.KnownBytes.{Appends, Keeps}
use Rattle.line_loop.specs.Run.{IsBeginning}
use Rattle.diagnostics.specs.declared.telling.Part.{Part}
use Rattle.diagnostics.specs.declared.telling.Part.TheVariants.{Record, Entry}

-- the line that tells why something is wrong on that line of a text
abbrev pub reason_line : ℕ → List ℕ → List ℕ
reason_line n why = ((codes "pciex: line " ++ decimal n) ++ why) ++ 10 ∷ []

-- a reason says something, in one line
abbrev pub IsReason : List ℕ → Type 0
IsReason why = (¬ (why ≡ [])) × (list_any (λ b. b == 10) why ≡ false)

-- a reason that lies on that line was written
abbrev pub IsReasonToldAt : ℕ → Option (List ℕ) → Option (List ℕ) → Type 0
IsReasonToldAt n old new = (why : List ℕ) × IsReason why × Appends old new (reason_line n why)

-- a reason was written where there is a fault, and lies on the fault's line; else nothing
abbrev pub IsReasonTold : Option ℕ → Option (List ℕ) → Option (List ℕ) → Type 0
IsReasonTold None old new = Keeps old new
IsReasonTold (Some n) old new = IsReasonToldAt n old new

-- where a stream failed: a prefix of a reason that lies on that line was written, all of it or nothing perhaps
abbrev pub IsReasonBegunAt : ℕ → Option (List ℕ) → Option (List ℕ) → Type 0
IsReasonBegunAt n old new = (why : List ℕ) × IsReason why × (done : List ℕ) × IsBeginning done (reason_line n why) × Appends old new done

-- the same where there is a fault, of the fault's line; else nothing was written
abbrev pub IsReasonBegun : Option ℕ → Option (List ℕ) → Option (List ℕ) → Type 0
IsReasonBegun None old new = Keeps old new
IsReasonBegun (Some n) old new = IsReasonBegunAt n old new

-- the line that tells of a record or an entry which line of the text it is, and why it is wrong
abbrev pub beginning_of : Part → ℕ → List ℕ
beginning_of (Record place) n = ((codes "pciex: record " ++ decimal place) ++ codes " is line ") ++ decimal n
beginning_of (Entry place) n = ((codes "pciex: entry " ++ decimal place) ++ codes " is line ") ++ decimal n

abbrev pub part_line : Part → ℕ → List ℕ → List ℕ
part_line part n why = (beginning_of part n ++ why) ++ 10 ∷ []

-- a reason that lies on a record or an entry was written
abbrev pub IsPartTold : Part → ℕ → Option (List ℕ) → Option (List ℕ) → Type 0
IsPartTold part n old new = (why : List ℕ) × IsReason why × Appends old new (part_line part n why)

-- where a stream failed: a prefix of such a reason was written
abbrev pub IsPartBegun : Part → ℕ → Option (List ℕ) → Option (List ℕ) → Type 0
IsPartBegun part n old new = (why : List ℕ) × IsReason why × (done : List ℕ) × IsBeginning done (part_line part n why) × Appends old new done
