-- A fabric that scripts' lines drive one by one.
use Rattle.std.specs.Prelude.{ℕ, ◌≡◌, Bool, true, if◌then◌else◌, List, [], ◌∷◌, ◌++◌, fold, Option, IfSome}
use Rattle.history_words.specs.Records.{Record}
use Rattle.history_words.specs.Claim.{Claim}
use Rattle.fabric_steps.specs.Fabric.{Fabric, whole_of}
use Rattle.fabric_steps.specs.Trace.{Belongs}
use Rattle.fabric_core.specs.declared.config.Config.{Config}
use Rattle.fabric_core.specs.New.{new_fabric}
use Rattle.fabric_settle.specs.Happenings.{Happening}
use Rattle.fabric_settle.specs.Keeping.{with_record}
use Rattle.trace_text.specs.Texts.{trace_text}
use Rattle.script_text.specs.Texts.{seen_text, told_text}

-- the fabric, if a trace is kept its records so far, and what the last settlement collected
pub record SessionView : Type 0 where
  pub fabric : Fabric
  pub is_traced : Bool
  pub records : List Record
  pub collected : List Record

-- a kept trace belongs to the fabric
abbrev pub IsKept : Fabric → Bool → List Record → Type 0
IsKept f traced rs = traced ≡ true → Belongs (whole_of f) rs

-- a text that is kept is that of the trace and the history
abbrev pub IsTextOf : Option (List ℕ) → Fabric → List Record → Type 0
IsTextOf text f rs = IfSome text (λ bytes. bytes ≡ trace_text (record { memory = f.memory; records = rs }))

abbrev pub IsSession : SessionView → Type 0
IsSession s = IsKept s.fabric s.is_traced s.records

abbrev pub new_session : Config → Bool → SessionView
new_session c traced = record { fabric = new_fabric c; is_traced = traced; records = []; collected = [] }

-- the trace and the history
abbrev pub claim : SessionView → Claim
claim s = record { memory = s.fabric.memory; records = s.records }

-- the text of what was seen last
abbrev pub last_text : List ℕ → Happening → List ℕ
last_text text h = seen_text h.event h.what

-- what a session that keeps a trace keeps of the events: its records, and the text of what was seen last
pub record KeptView : Type 0 where
  pub records : List Record
  pub text : List ℕ

abbrev pub kept_of : KeptView → Happening → KeptView
kept_of k h = record { records = with_record k.records h; text = last_text k.text h }

-- ---- settlements

-- what a settlement keeps: the records of its events, in the trace if one is kept, and apart
pub record SettledView : Type 0 where
  pub is_traced : Bool
  pub records : List Record
  pub collected : List Record

abbrev pub settled_of : SettledView → Happening → SettledView
settled_of k h = record {
  is_traced = k.is_traced;
  records = if k.is_traced then with_record k.records h else k.records;
  collected = with_record k.collected h;
}

-- before the first event
abbrev pub unsettled : SessionView → SettledView
unsettled s = record { is_traced = s.is_traced; records = s.records; collected = [] }

-- the session that these events leave, the last of which leaves this fabric
abbrev pub after_all : SessionView → List Happening → Fabric → SessionView
after_all s happened f' =
    let k = fold settled_of (unsettled s) happened in
    record { fabric = f'; is_traced = s.is_traced; records = k.records; collected = k.collected }

-- what is collected, each in a line
unfoldable pub collected_lines : List Record → List ℕ
collected_lines [] = []
collected_lines (r ∷ rs) = told_text r ++ 10 ∷ collected_lines rs
