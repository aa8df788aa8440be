-- Which requests of a log name a word, need a value of it, and leave one there.
use Rattle.std.specs.Prelude.{ℕ, ◌≡◌, ◌+◌, ◌*◌, ◌<◌, ◌≤◌, ◌/◌, ◌⊎◌, List, length, slice_get, slice_index, Option, Some, None}
use Rattle.tlp_core.specs.Ops.{Op}
use Rattle.tlp_core.specs.Operation.{address_of, count_of}
use Rattle.seq_memory.specs.Entries.{Reply}
use Rattle.seq_memory.specs.Limits.{Extent}
use Rattle.seq_memory.specs.Step.{after, refusal}
use Rattle.search_effects.specs.Effects.{Agrees}
use Rattle.log_runs.specs.EventView as events
use Rattle.log_runs.specs.LogView.{LogView}
use Rattle.search_rules.specs.Junk.{Overlooks, Touches}
use Rattle.search_rules.specs.Rules.{Suits}
use Rattle.search_words.specs.Lists.{Has, InList, RisesTo, IsRising}
use Rattle.search_words.specs.WordsView.{WordsView}
use Rattle.search_words.specs.declared.near.Near.{Near}

-- the four bytes from that place on, as a number
abbrev pub value_in : List ℕ → ℕ → ℕ
value_in m at = slice_index m at + 256 * slice_index m (at + 1) + 65536 * slice_index m (at + 2) + 16777216 * slice_index m (at + 3)

-- where the memory agrees with the request, the word is v
abbrev pub NeedsWord : Extent → Op → Option Reply → ℕ → ℕ → Type 0
NeedsWord x op told w v = (m : List ℕ) → Agrees x.base x.block m op told → value_in m (4 * w) ≡ v

-- where the request is served and the memory agrees, the word is v afterwards
abbrev pub LeavesWord : Extent → Op → Option Reply → ℕ → ℕ → Type 0
LeavesWord x op told w v =
    (m : List ℕ) → Agrees x.base x.block m op told → refusal x.base (length m) x.block op ≡ None → value_in (after x.base x.block m op) (4 * w) ≡ v

-- the operation's range is whole words of the memory
pub record HasWholeWords (base : ℕ) (op : Op) : Type 0 where
  pub word : ℕ
  pub place : address_of op ≡ base + 4 * word
  pub count : ℕ
  pub whole : count_of op ≡ 4 * count

-- and it makes no difference to the request what stands there
abbrev pub IsCareless : Extent → Op → Option Reply → Type 0
IsCareless x op told = HasWholeWords x.base op × Overlooks x op told op

-- a number for a word and a value of it
abbrev pub key : ℕ → ℕ → ℕ
key w v = w * 4294967296 + v

-- request b is known at word w, which its operation names: it is among those whose need isn't known, those that are careless, or
-- those that need a value there; and among those of which it isn't known what they leave there, or those that leave a value
pub record IsKnownAt (x : Extent) (t : WordsView) (b : ℕ) (op : Op) (told : Option Reply) (w : ℕ) : Type 0 where
  pub named : Has t.named w b
  pub need : Has t.blind w b ⊎ (Has t.careless w b × IsCareless x op told) ⊎ ((v : ℕ) × Has t.needed (key w v) b × NeedsWord x op told w v)
  pub left : Has t.loose w b ⊎ ((v : ℕ) × Has t.left (key w v) b × LeavesWord x op told w v)

-- each word of the memory that the operation names
abbrev pub AreKnown : Extent → WordsView → ℕ → Op → Option Reply → Type 0
AreKnown x t b op told = (w : ℕ) → Touches x.base op w → w < x.size / 4 → IsKnownAt x t b op told w

-- it is known there, or names no word or many
abbrev pub IsTaken : Extent → WordsView → ℕ → Op → Option Reply → Type 0
IsTaken x t b op told = InList t.wide b ⊎ ((0 < count_of op) × AreKnown x t b op told)

-- places rise up to n
pub record AllRise (t : WordsView) (n : ℕ) : Type 0 where
  pub needed : IsRising t.needed n
  pub careless : IsRising t.careless n
  pub blind : IsRising t.blind n
  pub left : IsRising t.left n
  pub loose : IsRising t.loose n
  pub named : IsRising t.named n
  pub wide : RisesTo t.wide n

-- nothing is missing of what there was
pub record Keeps (old new : WordsView) : Type 0 where
  pub needed : (k b : ℕ) → Has old.needed k b → Has new.needed k b
  pub careless : (k b : ℕ) → Has old.careless k b → Has new.careless k b
  pub blind : (k b : ℕ) → Has old.blind k b → Has new.blind k b
  pub left : (k b : ℕ) → Has old.left k b → Has new.left k b
  pub loose : (k b : ℕ) → Has old.loose k b → Has new.loose k b
  pub named : (k b : ℕ) → Has old.named k b → Has new.named k b
  pub wide : (b : ℕ) → InList old.wide b → InList new.wide b

-- the first n requests of the log are known at each of their words, or name many
pub record AreWords (log : LogView) (t : WordsView) (n : ℕ) : Type 0 where
  pub each : (b i : ℕ) (op : Op) (told : Option Reply) → b < n → slice_get log.events b ≡ Some (events.Sub i op told)
      → IsTaken log.extent t b op told
  pub rise : AllRise t n

-- the log's requests
abbrev pub IsWords : LogView → WordsView → Type 0
IsWords log t = AreWords log t (length log.events)

-- the request at place b names bytes of the word, or none at all
abbrev pub NamesWord : LogView → ℕ → ℕ → Type 0
NamesWord log b w =
    (i : ℕ) × (op : Op) × (told : Option Reply) × (slice_get log.events b ≡ Some (events.Sub i op told)) × (Touches log.extent.base op w ⊎ (count_of op ≡ 0))

-- the operation's range has all of the word
abbrev pub HasWord : ℕ → Op → ℕ → Type 0
HasWord base op w = (base ≤ address_of op) × (address_of op ≤ base + 4 * w) × (base + 4 * w + 4 ≤ address_of op + count_of op)

-- the range of request q has all of the word
abbrev pub HasWordAt : LogView → ℕ → ℕ → Type 0
HasWordAt log q w = (j : ℕ) × (op : Op) × (asked : Option Reply) × (slice_get log.events q ≡ Some (events.Sub j op asked)) × HasWord log.extent.base op w

-- request b is among those that need the word to be v, or of which it isn't known what they need there
abbrev pub MayNeed : WordsView → ℕ → ℕ → ℕ → Type 0
MayNeed t w v b = InList t.wide b ⊎ Has t.blind w b ⊎ Has t.needed (key w v) b

-- request q, which was answered, needs the word to be v
abbrev pub NeedsWordAt : LogView → ℕ → ℕ → ℕ → Type 0
NeedsWordAt log q w v = (j : ℕ) × (op : Op) × (reply : Reply) × (slice_get log.events q ≡ Some (events.Sub j op (Some reply))) × NeedsWord log.extent op (Some reply) w v

-- request g, which would be served, leaves v at the word
abbrev pub LeavesWordAt : LogView → ℕ → ℕ → ℕ → Type 0
LeavesWordAt log g w v =
    (l : ℕ) × (op : Op) × (had : Option Reply) × (slice_get log.events g ≡ Some (events.Sub l op had)) × (refusal log.extent.base log.extent.size log.extent.block op ≡ None)
    × LeavesWord log.extent op had w v

-- while the word is v, the memory doesn't suit request b
abbrev pub IsOutAt : LogView → ℕ → ℕ → ℕ → Type 0
IsOutAt log b w v = (n : List ℕ) → value_in n (4 * w) ≡ v → Suits log.extent n (slice_get log.events b) → ⊥

-- one of the lists has the place
abbrev pub IsNear : Near → ℕ → Type 0
IsNear near b = InList near.wide.now b ⊎ InList near.unknown.now b ⊎ InList near.known.now b ⊎ InList near.careless.now b
