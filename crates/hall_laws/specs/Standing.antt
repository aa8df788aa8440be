-- The rule of the table, over any whole that is told by the values of its parts.
use Rattle.std.specs.Prelude.{◌≡◌, ◌≢◌, ◌==◌, ◌⊎◌, ℕ, suc, ◌+◌, ◌*◌, ◌<◌, ◌≤◌, cond, List, [], ◌∷◌, length, Option, Some}
use mathlib.Core.Option.{some}
use lib.ListN.{get_elem?}
use Rattle.atomic_table.specs.Table.{State, Me, Step, rest}
use Rattle.fabric_core.specs.declared.config.Config.{Config}
use Rattle.lane_core.specs.Steps.{new_lane}
use Rattle.fabric_steps.specs.Lists.{Each}
use Rattle.fabric_steps.specs.Fabric.{Fabric}
use Rattle.hall_laws.specs.declared.part.PartValue.{PartValue}
use Rattle.hall_laws.specs.declared.token.Token.{Token}
use Rattle.hall_laws.specs.declared.token.Knowledge.{Knowledge}

abbrev pub total : {X : Type 0} → (X → ℕ) → List X → ℕ
total f [] = 0
total f (x ∷ xs) = f x + total f xs

abbrev pub one_if_same : ℕ → ℕ → ℕ
one_if_same m n = cond (m == n) 1 0

-- how often the number stands in the list
abbrev pub times : ℕ → List ℕ → ℕ
times n ns = total (one_if_same n) ns

-- how many tokens have the number n
abbrev pub named : ℕ → List Token → ℕ
named n ts = total (λ (t : Token). one_if_same n t.knows.number) ts

-- how often the tokens served the place n
abbrev pub serving : ℕ → List Token → ℕ
serving n ts = total (λ (t : Token). times n t.knows.served) ts

abbrev pub Values : Type 0
Values = List (ℕ × PartValue)

-- a seat's view is a list of tokens: mostly of one, of several where seats were joined, of none once joined away
abbrev pub Sat : Type 0
Sat = Me (Option PartValue) (List Token)

abbrev pub Table : Type 0
Table = State (Option PartValue) (List Token)

-- where the word of a slot stands: no two are in one cache line, which is 8 words of 64 bits
abbrev pub word_of : ℕ → ℕ
word_of k = 8 * k

abbrev pub no_config : Config
no_config = record { requesters = 0; base = 0; size = 0; credits = record { ph = 0; pd = 0; nph = 0; npd = 0; cplh = 0; cpld = 0 }; block = 0 }

-- a fabric of no requesters
abbrev pub nowhere : Fabric
nowhere = record { credits = no_config.credits; memory = record { base = 0; size = 0; block = 0; entries = [] }; requesters = []; inward = new_lane no_config.credits; outward = new_lane no_config.credits; up = []; down = [] }

abbrev pub nobody : Knowledge
nobody = record { number = 0; config = no_config; opened = nowhere; seats = 0; seen = []; made = []; pending = []; records = []; served = []; did = [] }

abbrev pub blank : Token
blank = record { knows = nobody; held = [] }

-- the token that steps
abbrev pub token_of : List Token → Token
token_of [] = blank
token_of (t ∷ ts) = t

abbrev pub others_of : List Token → List Token
others_of [] = []
others_of (t ∷ ts) = ts

abbrev pub holding : ℕ → PartValue → Token → Token
holding k v t = record t { held = (k, v) ∷ t.held }

abbrev pub holding_first : ℕ → PartValue → List Token → List Token
holding_first k v ts = holding k v (token_of ts) ∷ others_of ts

-- j is none of the places
abbrev pub Outside : ℕ → Values → Type 0
Outside j h = Each (λ (kv : ℕ × PartValue). j ≢ kv.0) h

-- one of the places is k
abbrev pub Covers : Values → ℕ → Type 0
Covers [] k = ⊥
Covers (kv ∷ h) k = (kv.0 ≡ k) ⊎ Covers h k

-- one of the tokens has the number n and holds the part j
abbrev pub SomeHolds : ℕ → ℕ → List Token → Type 0
SomeHolds n j [] = ⊥
SomeHolds n j (t ∷ ts) = ((t.knows.number ≡ n) × Covers t.held j) ⊎ SomeHolds n j ts

abbrev pub Found : List (List Token) → ℕ → ℕ → Type 0
Found views n j = (i : ℕ) × (us : List Token) × (get_elem? views i ≡ some us) × SomeHolds n j us

-- a token that does not step keeps its number, its parts and the places that it served
abbrev pub Alike : Token → Token → Type 0
Alike u u' = (u'.knows.number ≡ u.knows.number) × (u'.held ≡ u.held) × (u'.knows.served ≡ u.knows.served)

abbrev pub AreAlike : List Token → List Token → Type 0
AreAlike [] [] = Unit {0}
AreAlike (u ∷ us) (w ∷ ws) = Alike u w × AreAlike us ws
AreAlike _ _ = ⊥

-- parts gives a whole its parts, in the order of their places
module _ {P : Type 0} (parts : P → List PartValue) (Sound : P → Type 0) (Fits : P → Knowledge → Type 0) where
  -- the places have these values
  abbrev pub Agrees : P → Values → Type 0
  Agrees p h = Each (λ (kv : ℕ × PartValue). get_elem? (parts p) kv.0 ≡ some kv.1) h

  -- each part that the token holds has its word, and the value that the token says
  abbrev pub Holds : P → List ℕ → Token → Type 0
  Holds p words t = Each (λ (kv : ℕ × PartValue). (get_elem? words (word_of kv.0) ≡ some (suc t.knows.number)) × (get_elem? (parts p) kv.0 ≡ some kv.1)) t.held

  abbrev pub Seated : P → List ℕ → Token → Type 0
  Seated p words t = Holds p words t × Fits p t.knows

  -- Each part is at home where its word is 0, and else has the value that the token named by the word says. The whole
  -- of these values is sound
  pub record Standing (s : Table) : Type 0 where
    pub whole : P
    pub sound : Sound whole
    pub wide : length s.words ≡ word_of (length (parts whole))
    pub deep : length s.homes ≡ length (parts whole)
    pub at_home : (k : ℕ) (v : PartValue) → get_elem? s.words (word_of k) ≡ some 0 → get_elem? (parts whole) k ≡ some v → get_elem? s.homes k ≡ some (some (Some v))
    pub holder : (j n : ℕ) → get_elem? s.words (word_of j) ≡ some (suc n) → Found s.views n j
    pub tokens : (j : ℕ) (ts : List Token) → get_elem? s.views j ≡ some ts → Each (Seated whole s.words) ts
    pub apart : (n : ℕ) → total (named n) s.views ≤ 1
    pub served : (n : ℕ) → total (serving n) s.views ≤ 1

  abbrev pub FitsToken : P → Token → Type 0
  FitsToken p t = Agrees p t.held × Fits p t.knows

  -- the tokens fit one sound whole, which has the values that they hold
  abbrev pub Known : List Token → Type 0
  Known ts = (p : P) × Sound p × Each (FitsToken p) ts

  -- kind 1, at the word of the part k: it was free and is held by the first token; or nothing changed, and it was another
  -- seat's where the first token doesn't hold the part
  abbrev pub taken : Step (Option PartValue) → Sat → ℕ → Sat → Type 0
  taken st m found m' = (k : ℕ) → st.word ≡ word_of k
      → (found ≡ 0 → (v : PartValue) × (m' ≡ (holding_first k v m.0, (k, Some v) ∷ m.1)) × Known (holding_first k v m.0))
      × (found ≢ 0 → (m' ≡ m) × (Outside k (token_of m.0).held → found ≢ suc (token_of m.0).knows.number))

  -- What the whole may become while a view, of whose tokens the first steps, turns into another: it stays sound, the
  -- parts that the first did not hold stay, all tokens fit, and these places have these values
  abbrev pub Becomes : P → List Token → ℕ → PartValue → List Token → P → Type 0
  Becomes p ts k v us p' =
      Sound p' × (length (parts p') ≡ length (parts p))
      × ((j : ℕ) (x : PartValue) → Outside j (token_of ts).held → get_elem? (parts p) j ≡ some x → get_elem? (parts p') j ≡ some x)
      × (get_elem? (parts p') k ≡ some v) × Agrees p' (token_of us).held × Each (λ (u : Token). Fits p' u.knows) us
      × ((u : Knowledge) → u.number ≢ (token_of ts).knows.number → Fits p u → Fits p' u)

  -- the release of the part k at v, by the first token of a view, which becomes another
  pub record Releases (ts : List Token) (k : ℕ) (v : PartValue) (us : List Token) : Type 0 where
    pub some_token : 0 < length us
    pub number : (token_of us).knows.number ≡ (token_of ts).knows.number
    pub alike : AreAlike (others_of ts) (others_of us)
    pub covers : Covers (token_of ts).held k
    pub others : Each (λ (kv : ℕ × PartValue). (kv.0 ≢ k) × Covers (token_of ts).held kv.0) (token_of us).held
    pub keeps : (j : ℕ) → j ≢ k → Covers (token_of ts).held j → Covers (token_of us).held j
    pub becomes : (p : P) → Sound p → Agrees p (token_of ts).held → Each (λ (u : Token). Fits p u.knows) ts → Each (λ (u : Token). u.knows.number ≢ (token_of ts).knows.number) (others_of ts) → (p' : P) × Becomes p ts k v us p'
    pub served : (p : P) → Sound p → Agrees p (token_of ts).held → Fits p (token_of ts).knows → (n : ℕ)
        → (times n (token_of us).knows.served ≤ times n (token_of ts).knows.served) ⊎ ((times n (token_of us).knows.served ≤ 1) × ((u : Knowledge) → Fits p u → times n u.served ≡ 0))

  -- kinds 2 to 4: the view is now this
  abbrev pub released : List Token → Step (Option PartValue) → Sat → ℕ → Sat → Type 0
  released us st m found m' = (m' ≡ (us, rest m.1)) × Known us
