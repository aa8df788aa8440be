-- What the forms of lines tell of their values.
use Rattle.std.proofs.Common.{◌≡◌, ◌∙◌, ℕ, Bool, true, false, List, [], ◌∷◌, refl, sym, ap, subst, arith, Option, Some, None, inl, inr}
use Rattle.std.specs.Prelude.{◌==◌, ◌≢◌, ◌||◌, cond, codes, bytes_eq}
use Rattle.std.proofs.lemmas.Bool.{cases_Bool, eq-eqb}
use Rattle.std.proofs.lemmas.Bool.Decides.{nat_tests}
use Rattle.tlp_core.specs.Ops.{Op}
use Rattle.seq_memory.specs.Entries.{Entry}
use Rattle.seq_memory.specs.Entries.{Reply}
use Rattle.seq_memory.specs.Limits.{IsBlock, Extent, is_within_limits}
use Rattle.history_words.specs.Records.{Record}
use Rattle.history_words.specs.declared.record.RecordOf.TheVariants as records
use Rattle.operation_text.specs.Operations.{address, op_spelled, reply_spelled}
use Rattle.operation_text.specs.Words.{field, then_with, ended}
use Rattle.operation_text.specs.Numbers.{numeral}
use Rattle.trace_text.specs.declared.line.Version.{Version}
use Rattle.trace_text.specs.declared.line.Line.{Line}
use Rattle.trace_text.specs.declared.line.Line.TheVariants as lines
use Rattle.record_text.specs.Forms as fields
use Rattle.trace_text.specs.Forms as forms
use Rattle.trace_text.specs.Forms.{line_of}

-- the field that a line begins with, and what follows
pub record Field {X Y : Type 0} (spells : List ℕ → Option X) (f : X → List (List ℕ) → Option Y) (ws : List (List ℕ)) (y : Y) : Type 0 where
  pub value : X
  pub word : List ℕ
  pub rest : List (List ℕ)
  pub front : ws ≡ word ∷ rest
  pub is : spells word ≡ Some value
  pub follows : f value rest ≡ Some y

pub field-first : {X Y : Type 0} (spells : List ℕ → Option X) (f : X → List (List ℕ) → Option Y) (ws : List (List ℕ)) (y : Y)
    → field spells f ws ≡ Some y → Field spells f ws y
field-first spells f [] y h = absurd (cc h)
field-first {X} {Y} spells f (w ∷ rest) y h = by (spells w) refl h
  where
    by : (o : Option X) → spells w ≡ o → then_with {X = X × List (List ℕ)} (then_with o (λ x. Some (x, rest))) (λ s. f s.0 s.1) ≡ Some y → Field spells f (w ∷ rest) y
    by None e k = absurd (cc k)
    by (Some x) e k = record { value = x; word = w; rest = rest; front = refl; is = e; follows = k }

-- what one word spells, and what is made of it
pub record Then {X Y : Type 0} (o : Option X) (f : X → Option Y) (y : Y) : Type 0 where
  pub value : X
  pub is : o ≡ Some value
  pub follows : f value ≡ Some y

pub then-first : {X Y : Type 0} (o : Option X) (f : X → Option Y) (y : Y) → then_with o f ≡ Some y → Then o f y
then-first None f y h = absurd (cc h)
then-first (Some x) f y h = record { value = x; is = refl; follows = h }

pub ended-is : {X : Type 0} (x y : X) (ws : List (List ℕ)) → ended x ws ≡ Some y → x ≡ y
ended-is x y [] h = cc h
ended-is x y (w ∷ ws) h = absurd (cc h)

-- one of two ways
pub either : {Y : Type 0} (P : Type 0) (t : Bool) (a b : Option Y) (y : Y) → (a ≡ Some y → P) → (b ≡ Some y → P) → cond t a b ≡ Some y → P
either P true a b y f g h = f h
either P false a b y f g h = g h

pub some-is : {A : Type 0} (x y : A) → Some x ≡ Some y → x ≡ y
some-is x y e = cc e

pub block-is : (w : List ℕ) (b : ℕ) → fields.block w ≡ Some b → IsBlock b
block-is w b h =
    let t = then-first (numeral 10 128 w) _ b h in
    elim (cases_Bool ((t.value == 64) || (t.value == 128))) [
      | inl hit ↦
          let same : t.value ≡ b = some-is t.value b (rw hit at t.follows) in
          subst IsBlock same (grind (arith, nat_tests))
      | inr miss ↦ absurd (let k = rw miss at t.follows in cc k)
    ]

-- the number that a requester's word spells
pub requester-is : (w : List ℕ) (i : ℕ) → fields.requester w ≡ Some i → (numeral 10 7 w ≡ Some i) × (i ≢ 0)
requester-is w i h =
    let t = then-first (numeral 10 7 w) (λ n. cond (n == 0) None (Some n)) i h in
    elim (cases_Bool (t.value == 0)) [
      | inl hit ↦ absurd (let k = rw hit at t.follows in cc k)
      | inr miss ↦
          let same : t.value ≡ i = some-is t.value i (rw miss at t.follows) in
          (t.is ∙ ap (λ (n : ℕ). Some n) same, λ e. (let zero = eq-eqb t.value 0 (same ∙ e) in cc (sym zero ∙ miss)))
    ]

-- ---- the words of records and entries

-- a word, and what it spells
pub record Word {X : Type 0} (spells : List ℕ → Option X) : Type 0 where
  pub value : X
  pub word : List ℕ
  pub is : spells word ≡ Some value

abbrev pub sub : ℕ → ℕ → ℕ → Op → Line
sub i k n op = lines.Record (records.Sub i k op n)

abbrev pub ans : ℕ → ℕ → ℕ → Reply → Line
ans i k n reply = lines.Record (records.Ans i k reply n)

abbrev pub ent : ℕ → ℕ → Op → Line
ent i k op = lines.Entry (record { requester = i; number = k; op = op })

-- the words of a record, of which the rest spells its operation or its reply
pub record RecordWords {X : Type 0} (spells : List (List ℕ) → Option X) (made : ℕ → ℕ → ℕ → X → Line) (ws : List (List ℕ)) (l : Line) : Type 0 where
  pub requester : Word fields.requester
  pub number : Word fields.number
  pub count : Word fields.count
  pub rest : List (List ℕ)
  pub said : X
  pub front : ws ≡ requester.word ∷ number.word ∷ count.word ∷ rest
  pub is : spells rest ≡ Some said
  pub line : made requester.value number.value count.value said ≡ l

-- what is made of the words behind each number
abbrev behind-count : {X : Type 0} → (List (List ℕ) → Option X) → (ℕ → ℕ → ℕ → X → Line) → ℕ → ℕ → ℕ → List (List ℕ) → Option Line
behind-count spells made i k n rest = then_with (spells rest) (λ x. Some (made i k n x))

abbrev behind-number : {X : Type 0} → (List (List ℕ) → Option X) → (ℕ → ℕ → ℕ → X → Line) → ℕ → ℕ → List (List ℕ) → Option Line
behind-number spells made i k ws = field fields.count (behind-count spells made i k) ws

abbrev behind-requester : {X : Type 0} → (List (List ℕ) → Option X) → (ℕ → ℕ → ℕ → X → Line) → ℕ → List (List ℕ) → Option Line
behind-requester spells made i ws = field fields.number (behind-number spells made i) ws

front-of : (ws r s t : List (List ℕ)) (a b c : List ℕ) → ws ≡ a ∷ r → r ≡ b ∷ s → s ≡ c ∷ t → ws ≡ a ∷ b ∷ c ∷ t
front-of ws r s t a b c p q v = p ∙ ap (λ (x : List (List ℕ)). a ∷ x) (q ∙ ap (λ (x : List (List ℕ)). b ∷ x) v)

record-by : {X : Type 0} (spells : List (List ℕ) → Option X) (made : ℕ → ℕ → ℕ → X → Line) (ws : List (List ℕ)) (l : Line)
    (i : Field fields.requester (behind-requester spells made) ws l) (k : Field fields.number (behind-number spells made i.value) i.rest l)
    (n : Field fields.count (behind-count spells made i.value k.value) k.rest l) → Then (spells n.rest) (λ x. Some (made i.value k.value n.value x)) l
    → RecordWords spells made ws l
record-by spells made ws l i k n said = record {
  requester = record { value = i.value; word = i.word; is = i.is };
  number = record { value = k.value; word = k.word; is = k.is };
  count = record { value = n.value; word = n.word; is = n.is };
  rest = n.rest;
  said = said.value;
  front = front-of ws i.rest k.rest n.rest i.word k.word n.word i.front k.front n.front;
  is = said.is;
  line = some-is (made i.value k.value n.value said.value) l said.follows;
}

pub record-words : {X : Type 0} (spells : List (List ℕ) → Option X) (made : ℕ → ℕ → ℕ → X → Line) (ws : List (List ℕ)) (l : Line)
    → field fields.requester (behind-requester spells made) ws ≡ Some l → RecordWords spells made ws l
record-words spells made ws l h =
    let i = field-first fields.requester (behind-requester spells made) ws l h in
    let k = field-first fields.number (behind-number spells made i.value) i.rest l i.follows in
    let n = field-first fields.count (behind-count spells made i.value k.value) k.rest l k.follows in
    record-by spells made ws l i k n (then-first (spells n.rest) (λ x. Some (made i.value k.value n.value x)) l n.follows)

-- the words of an entry, of which the rest spells its operation
pub record EntryWords (ws : List (List ℕ)) (l : Line) : Type 0 where
  pub requester : Word fields.requester
  pub number : Word fields.number
  pub rest : List (List ℕ)
  pub op : Op
  pub front : ws ≡ requester.word ∷ number.word ∷ rest
  pub is : op_spelled rest ≡ Some op
  pub line : ent requester.value number.value op ≡ l

pub entry-words : (ws : List (List ℕ)) (l : Line) → forms.ent_of ws ≡ Some l → EntryWords ws l
entry-words ws l h =
    let i = field-first fields.requester (λ i. field fields.number (λ k rest. then_with (op_spelled rest) (λ op. Some (ent i k op)))) ws l h in
    let k = field-first fields.number (λ k rest. then_with (op_spelled rest) (λ op. Some (ent i.value k op))) i.rest l i.follows in
    let op = then-first (op_spelled k.rest) (λ op. Some (ent i.value k.value op)) l k.follows in
    record {
      requester = record { value = i.value; word = i.word; is = i.is };
      number = record { value = k.value; word = k.word; is = k.is };
      rest = k.rest;
      op = op.value;
      front = i.front ∙ ap (λ (t : List (List ℕ)). i.word ∷ t) k.front;
      is = op.is;
      line = some-is (ent i.value k.value op.value) l op.follows;
    }

-- ---- what the values of lines are

-- some words spell the value
abbrev pub IsSpelled : {W X : Type 0} → (W → Option X) → X → Type 0
IsSpelled {W} spells x = (w : W) × (spells w ≡ Some x)

abbrev pub RecordIs : Record → Type 0
RecordIs (records.Sub i k op n) = IsSpelled fields.requester i × IsSpelled fields.number k × IsSpelled fields.count n × IsSpelled op_spelled op
RecordIs (records.Ans i k reply n) = IsSpelled fields.requester i × IsSpelled fields.number k × IsSpelled fields.count n × IsSpelled reply_spelled reply

abbrev pub EntryIs : Entry → Type 0
EntryIs e = IsSpelled fields.requester e.requester × IsSpelled fields.number e.number × IsSpelled op_spelled e.op

abbrev pub ExtentIs : Extent → Type 0
ExtentIs x = IsSpelled address x.base × IsSpelled fields.count x.size × IsBlock x.block × (is_within_limits x ≡ true)

abbrev pub LineIs : Line → Type 0
LineIs (lines.FirstLine v) = Unit {0}
LineIs (lines.Memory x) = ExtentIs x
LineIs (lines.Record r) = RecordIs r
LineIs lines.History = Unit {0}
LineIs (lines.Entry e) = EntryIs e
LineIs lines.End = Unit {0}

within : (x y : Extent) (ws : List (List ℕ)) → fields.memory_within x ws ≡ Some y → (is_within_limits x ≡ true) × (x ≡ y)
within x y ws h =
    elim (cases_Bool (is_within_limits x)) [
      | inl hit ↦ (hit, ended-is x y ws (rw hit at h))
      | inr miss ↦ absurd (let k = rw miss at h in cc k)
    ]

head-is : (ws : List (List ℕ)) (l : Line) → forms.first_line_of ws ≡ Some l → LineIs l
head-is ws l h =
    let v = field-first forms.version (λ v. ended (lines.FirstLine v)) ws l h in
    subst LineIs (ended-is (lines.FirstLine v.value) l v.rest v.follows) tt

abbrev extent : ℕ → ℕ → ℕ → Extent
extent base size block = record { base = base; size = size; block = block }

pub extent-is : (has_block : Bool) (ws : List (List ℕ)) (x : Extent) → fields.memory_of has_block ws ≡ Some x → ExtentIs x
extent-is false ws x h =
    let base = field-first address (λ base. field fields.count (λ size. fields.memory_within (extent base size 64))) ws x h in
    let size = field-first fields.count (λ size. fields.memory_within (extent base.value size 64)) base.rest x base.follows in
    let w = within (extent base.value size.value 64) x size.rest size.follows in
    subst ExtentIs w.1 ((base.word, base.is), (size.word, size.is), inl refl, w.0)
extent-is true ws x h =
    let base = field-first address (λ base. field fields.count (λ size. field fields.block (λ b. fields.memory_within (extent base size b)))) ws x h in
    let size = field-first fields.count (λ size. field fields.block (λ b. fields.memory_within (extent base.value size b))) base.rest x base.follows in
    let b = field-first fields.block (λ b. fields.memory_within (extent base.value size.value b)) size.rest x size.follows in
    let w = within (extent base.value size.value b.value) x b.rest b.follows in
    subst ExtentIs w.1 ((base.word, base.is), (size.word, size.is), block-is b.word b.value b.is, w.0)

memory-is : (v : Version) (ws : List (List ℕ)) (l : Line) → forms.memory_line_of v ws ≡ Some l → LineIs l
memory-is v ws l h =
    let x = then-first (fields.memory_of (forms.has_block v) ws) (λ x. Some (lines.Memory x)) l h in
    subst LineIs (some-is (lines.Memory x.value) l x.follows) (extent-is (forms.has_block v) ws x.value x.is)

sub-is : (ws : List (List ℕ)) (l : Line) → forms.sub_of ws ≡ Some l → LineIs l
sub-is ws l h =
    let s = record-words op_spelled sub ws l h in
    subst LineIs s.line ((s.requester.word, s.requester.is), (s.number.word, s.number.is), (s.count.word, s.count.is), (s.rest, s.is))

ans-is : (ws : List (List ℕ)) (l : Line) → forms.ans_of ws ≡ Some l → LineIs l
ans-is ws l h =
    let s = record-words reply_spelled ans ws l h in
    subst LineIs s.line ((s.requester.word, s.requester.is), (s.number.word, s.number.is), (s.count.word, s.count.is), (s.rest, s.is))

ent-is : (ws : List (List ℕ)) (l : Line) → forms.ent_of ws ≡ Some l → LineIs l
ent-is ws l h =
    let s = entry-words ws l h in
    subst LineIs s.line ((s.requester.word, s.requester.is), (s.number.word, s.number.is), (s.rest, s.is))

pub line-is : (v : Version) (ws : List (List ℕ)) (l : Line) → line_of v ws ≡ Some l → LineIs l
line-is v [] l h = absurd (cc h)
line-is v (kind ∷ ws) l h =
    either (LineIs l) (bytes_eq kind (codes "sub")) _ _ l (sub-is ws l)
    (either (LineIs l) (bytes_eq kind (codes "ans")) _ _ l (ans-is ws l)
    (either (LineIs l) (bytes_eq kind (codes "ent")) _ _ l (ent-is ws l)
    (either (LineIs l) (bytes_eq kind (codes "memory")) _ _ l (memory-is v ws l)
    (either (LineIs l) (bytes_eq kind (codes "history")) _ _ l (λ e. subst LineIs (ended-is lines.History l ws e) tt)
    (either (LineIs l) (bytes_eq kind (codes "end")) _ _ l (λ e. subst LineIs (ended-is lines.End l ws e) tt)
    (either (LineIs l) (bytes_eq kind (codes "pciex-trace")) _ _ l (head-is ws l) (λ n. absurd (cc n)))))))) h
