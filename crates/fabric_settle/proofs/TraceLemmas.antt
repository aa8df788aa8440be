-- What happened, as a run with its records.
use Rattle.std.proofs.Common.{◌≡◌, ◌∙◌, ◌++◌, List, [], ◌∷◌, length, refl, sym, ap, subst, append_assoc}
use Rattle.std.specs.Prelude.{fold}
use Rattle.std.proofs.lemmas.List.{append-nil}
use Rattle.history_words.specs.Records.{Record}
use Rattle.fabric_steps.specs.Fabric.{Fabric}
use Rattle.fabric_core.specs.Answers.{Happens}
use Rattle.fabric_core.specs.Kept.{records_of}
use Rattle.fabric_core.specs.Runs.{Runs}
use Rattle.fabric_settle.specs.Happenings.{Happening, Leads}
use Rattle.fabric_settle.specs.Keeping.{events_of, with_record}

-- the run, and that a trace grows by its records
abbrev pub IsRun : Fabric → List Happening → Fabric → List Record → Type 0
IsRun f happened f' rs = (told : List Record) × Runs f (events_of happened) told f' × (fold with_record rs happened ≡ rs ++ told)

pub is_run : (f f' : Fabric) (happened : List Happening) (rs : List Record) → Leads Happens f happened f' → IsRun f happened f' rs
is_run f f' [] rs led = ([], (refl, led), sym (append-nil rs))
is_run f f' (h ∷ hs) rs led =
    let own : List Record = records_of h.event h.what (length h.before.memory.entries) in
    let later : IsRun h.after hs f' (rs ++ own) = is_run h.after f' hs (rs ++ own) led.2 in
    let same : own ≡ records_of h.event h.what (length f.memory.entries) = ap (λ (x : Fabric). records_of h.event h.what (length x.memory.entries)) led.0 in (
      own ++ later.0,
      (h.what, h.after, later.0, subst (λ (x : Fabric). Happens x h.event h.what h.after) led.0 led.1, later.1, ap (λ (xs : List Record). xs ++ later.0) same),
      later.2 ∙ append_assoc rs own later.0,
    )
