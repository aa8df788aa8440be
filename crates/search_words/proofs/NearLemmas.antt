-- Requests that are not in the lists of a word.
use Rattle.std.proofs.Common.{◌≡◌, ◌∙◌, ◌⊎◌, inl, inr, ℕ, ◌+◌, ◌*◌, ◌-◌, ◌/◌, ◌<◌, ◌≤◌, List, Some, None, Option, length, refl, sym, ap, subst, arith}
use Rattle.std.specs.Prelude.{slice_get}
use Rattle.std.proofs.lemmas.Bool.{cases_eq, cases_lt}
use Rattle.std.proofs.lemmas.Option.{same_Some, slice_get_within}
use Rattle.tlp_core.specs.Ops.{Op}
use Rattle.tlp_core.specs.Operation.{address_of, count_of}
use Rattle.seq_memory.specs.Entries.{Reply}
use Rattle.seq_memory.specs.Limits.{Extent}
use Rattle.seq_memory.specs.Step.{refusal, after, answer}
use Rattle.search_effects.specs.Effects.{Agrees, AreSameAt}
use Rattle.log_runs.specs.EventView.{EventView}
use Rattle.log_runs.specs.EventView as events
use Rattle.log_runs.specs.LogView.{LogView}
use Rattle.log_runs.specs.Runs.{reply_of, bytes_after, acted_on}
use Rattle.search_words.specs.Lists.{Has, InList}
use Rattle.search_words.specs.WordsView.{WordsView}
use Rattle.search_words.specs.Words.{value_in, NeedsWord, LeavesWord, IsCareless, IsKnownAt, IsWords, MayNeed, NamesWord, HasWord, HasWordAt, NeedsWordAt, LeavesWordAt, IsOutAt, key}
use Rattle.search_rules.specs.Junk.{Overlooks, Touches, word}
use Rattle.search_rules.specs.Idle.{IsJunkBehind}
use Rattle.search_rules.specs.Rules.{Suits, Ends, NeverBrings, Yields, LetsFirst, Names, IsJunkAt, LeavesJunkAt, AreApartThere}
use Rattle.search_words.proofs.EventLemmas.{junk_at, leaves_at, behind_at}
use Rattle.search_words.proofs.EventLemmas.{way_of}
use Rattle.search_words.proofs.EventLemmas.{address_at, count_at}
use Rattle.search_words.proofs.WordLemmas.{value_alike}

-- ---- who has bytes of a request names one of its words

meets : (base a n b k : ℕ) → 0 < k → 0 < n → base ≤ b → a < b + k → b < a + n → (w : ℕ) × ((b - base) / 4 ≤ w) × (w < (b - base + k + 3) / 4) × (base + 4 * w < a + n) × (a < base + 4 * w + 4)
meets base a n b k some any low one other = elim (cases_lt a b) [
  | inl before ↦ ((b - base) / 4, omega (arith, some, any, low, one, other, before), omega (arith, some, any, low, one, other, before), omega (arith, some, any, low, one, other, before), omega (arith, some, any, low, one, other, before))
  | inr from ↦ ((a - base) / 4, omega (arith, some, any, low, one, other, from), omega (arith, some, any, low, one, other, from), omega (arith, some, any, low, one, other, from), omega (arith, some, any, low, one, other, from))
]

pub named_by : (log : LogView) (b q j first end base : ℕ) (op : Op) (asked : Option Reply) → slice_get log.events q ≡ Some (events.Sub j op asked) → base ≡ log.extent.base
    → 0 < count_of op → base ≤ address_of op → first ≡ (address_of op - base) / 4 → end ≡ (address_of op - base + count_of op + 3) / 4
    → AreApartThere log b q ⊎ ((w : ℕ) × (first ≤ w) × (w < end) × NamesWord log b w)
named_by log b q j first end base op asked there eb some low ef ee = at (slice_get log.events b) refl
  where
    far : (o : Option EventView) → slice_get log.events b ≡ o → ((i : ℕ) (one : Op) (told : Option Reply) → o ≡ Some (events.Sub i one told)
        → (address_of one + count_of one ≤ address_of op) ⊎ (address_of op + count_of op ≤ address_of one)) → AreApartThere log b q
    far o is h i k one other told said seen behind =
        let address : address_of op ≡ address_of other = ap address_at (sym there ∙ behind) in
        let count : count_of op ≡ count_of other = ap count_at (sym there ∙ behind) in
        elim (h i one told (sym is ∙ seen)) [
          | inl before ↦ inl (omega (arith, before, address))
          | inr after ↦ inr (omega (arith, after, address, count))
        ]

    at : (o : Option EventView) → slice_get log.events b ≡ o → AreApartThere log b q ⊎ ((w : ℕ) × (first ≤ w) × (w < end) × NamesWord log b w)
    at (Some (events.Sub i one told)) is = elim (cases_lt (address_of one) (address_of op + count_of op)) [
      | inr past ↦ inl (far (Some (events.Sub i one told)) is (λ k other said same. let address : address_of one ≡ address_of other = ap address_at same in inr (omega (arith, past, address))))
      | inl begins ↦ elim (cases_lt (address_of op) (address_of one + count_of one)) [
        | inr before ↦ inl (far (Some (events.Sub i one told)) is (λ k other said same.
            let address : address_of one ≡ address_of other = ap address_at same in
            let count : count_of one ≡ count_of other = ap count_at same in
            inl (omega (arith, before, address, count))))
        | inl reaches ↦ elim (cases_eq (count_of one) 0) [
          | inl none ↦ inr (first, omega arith, omega (arith, ef, ee, some), (i, one, told, is, inr none))
          | inr any ↦
              let (w, from, till, front, back) = meets base (address_of one) (count_of one) (address_of op) (count_of op) some (omega (arith, any)) low begins reaches in
              inr (w, omega (arith, from, ef), omega (arith, till, ee), (i, one, told, is, inl (omega (arith, front, eb), omega (arith, back, eb))))
        ]
      ]
    ]
    at (Some (events.Due c)) is = inl (far (Some (events.Due c)) is (λ k other said same. cc))
    at (Some events.Free) is = inl (far (Some events.Free) is (λ k other said same. cc))
    at None is = inl (far None is (λ k other said same. cc))

-- a request's words are among those from the first up to the end
pub own_words : (log : LogView) (q j first end base : ℕ) (op : Op) (asked : Option Reply) → slice_get log.events q ≡ Some (events.Sub j op asked) → base ≡ log.extent.base
    → base ≤ address_of op → first ≡ (address_of op - base) / 4 → end ≡ (address_of op - base + count_of op + 3) / 4
    → (w : ℕ) → Names log q w → (first ≤ w) × (w < end)
own_words log q j first end base op asked there eb low ef ee w (i, one, told, at, (front, back)) =
    let address : address_of op ≡ address_of one = ap address_at (sym there ∙ at) in
    let count : count_of op ≡ count_of one = ap count_at (sym there ∙ at) in
    (omega (arith, ef, eb, low, address, back), omega (arith, ee, eb, low, address, count, front))

-- ---- who is careless overlooks a word that it names

overlooks_part : (x : Extent) (one other : Op) (told : Option Reply) → Overlooks x one told one → address_of one ≤ address_of other → address_of other + count_of other ≤ address_of one + count_of one
    → Overlooks x one told other
overlooks_part x one other told over low high m n size same = over m n size (record {
  size = same.size;
  others = λ k out. same.others k (elim out [
    | inl before ↦ inl (omega (arith, before, low))
    | inr behind ↦ inr (omega (arith, behind, high))
  ]);
})

overlooks_word : (x : Extent) (w : ℕ) (one : Op) (told : Option Reply) → IsCareless x one told → Touches x.base one w → Overlooks x one told (word x w)
overlooks_word x w one told (whole, over) (front, back) =
    overlooks_part x one (word x w) told over (omega (arith, whole.place, back)) (omega (arith, whole.place, whole.whole, front))

module _ (log : LogView) (t : WordsView) (words : IsWords log t) where
  known_at : (b i w : ℕ) (op : Op) (told : Option Reply) → slice_get log.events b ≡ Some (events.Sub i op told) → Touches log.extent.base op w ⊎ (count_of op ≡ 0) → w < log.extent.size / 4
      → InList t.wide b ⊎ (Touches log.extent.base op w × IsKnownAt log.extent t b op told w)
  known_at b i w op told at touches within = elim (words.each b i op told (slice_get_within log.events b (events.Sub i op told) at) at) [
    | inl many ↦ inl many
    | inr (some, known) ↦ elim touches [
      | inl touched ↦ inr (touched, known w touched within)
      | inr none ↦ absurd (omega (arith, some, none))
    ]
  ]

  pub by_name : (b w : ℕ) → NamesWord log b w → w < log.extent.size / 4 → InList t.wide b ⊎ Has t.named w b
  by_name b w (i, op, told, at, touches) within = elim (known_at b i w op told at touches within) [
    | inl many ↦ inl many
    | inr (touched, known) ↦ inr known.named
  ]

  -- the request is in a list, or is careless, or its word isn't v
  by_need : (b i w v : ℕ) (op : Op) (told : Option Reply) → slice_get log.events b ≡ Some (events.Sub i op told) → Touches log.extent.base op w ⊎ (count_of op ≡ 0) → w < log.extent.size / 4
      → MayNeed t w v b
      ⊎ (Has t.careless w b × Overlooks log.extent op told (word log.extent w))
      ⊎ ((n : List ℕ) → value_in n (4 * w) ≡ v → Agrees log.extent.base log.extent.block n op told → ⊥)
  by_need b i w v op told at touches within = elim (known_at b i w op told at touches within) [
    | inl many ↦ inl (inl many)
    | inr (touched, known) ↦ elim known.need [
      | inl blind ↦ inl (inr (inl blind))
      | inr (inl (has, careless)) ↦ inr (inl (has, overlooks_word log.extent w op told careless touched))
      | inr (inr (u, has, needs)) ↦ elim (cases_eq u v) [
        | inl same ↦ inl (inr (inr (subst (λ z. Has t.needed (key w z) b) same has)))
        | inr other ↦ inr (inr (λ n is agrees. other (sym (needs n agrees) ∙ is)))
      ]
    ]
  ]

  pub out_or : (b w v : ℕ) → NamesWord log b w → w < log.extent.size / 4 → (MayNeed t w v b ⊎ Has t.careless w b) ⊎ IsOutAt log b w v
  unfolding reply_of
  out_or b w v (i, op, told, at, touches) within = elim (by_need b i w v op told at touches within) [
    | inl need ↦ inl (inl need)
    | inr (inl (has, over)) ↦ inl (inr has)
    | inr (inr misses) ↦ inr (λ n is suits. misses n is (subst (Suits log.extent n) at suits))
  ]

  module _ (m : List ℕ) (b q w v : ℕ) (has : HasWordAt log q w) (is : v ≡ value_in m (4 * w)) where
    same_word : (n : List ℕ) (other : Op) → HasWord log.extent.base other w → AreSameAt log.extent.base other m n → value_in n (4 * w) ≡ v
    same_word n other inside same =
        value_alike n m (4 * w) (4 * w) (λ i l. same (4 * w + i) (omega (arith, inside.1)) (omega (arith, inside.2, l))) ∙ sym is

    pub first_or : NamesWord log b w → w < log.extent.size / 4 → (MayNeed t w v b ⊎ Has t.careless w b) ⊎ LetsFirst log m b q
    first_or names within = elim (out_or b w v names within) [
      | inl near ↦ inl near
      | inr out ↦
          let (j, other, asked, there, inside) = has in
          inr (inr (inl (λ n alike. out n (same_word n other inside (alike j other asked there)))))
    ]

  -- the word has the same bytes where they are the same at its addresses
  alike_there : (m n : List ℕ) (w : ℕ) → AreSameAt log.extent.base (word log.extent w) m n → value_in n (4 * w) ≡ value_in m (4 * w)
  alike_there m n w same = value_alike n m (4 * w) (4 * w) (λ i l. same (4 * w + i) (omega arith) (omega (arith, l)))

  pub junk_or : (m : List ℕ) (b w v : ℕ) → v ≡ value_in m (4 * w) → NamesWord log b w → w < log.extent.size / 4 → MayNeed t w v b ⊎ IsJunkAt log m b w
  junk_or m b w v is (i, op, told, at, touches) within = elim (by_need b i w v op told at touches within) [
    | inl need ↦ inl need
    | inr (inl (listed, over)) ↦ inr (junk_at log m b w i op told at (inr (inl over)))
    | inr (inr misses) ↦ inr (junk_at log m b w i op told at (inr (inr (λ n same. misses n (alike_there m n w same ∙ sym is)))))
  ]

  pub left_or : (b g w v : ℕ) → LeavesWordAt log g w v → NamesWord log b w → w < log.extent.size / 4 → MayNeed t w v b ⊎ LeavesJunkAt log b g w
  left_or b g w v (l, third, had, behind, served, leaves) (i, op, told, at, touches) within = elim (by_need b i w v op told at touches within) [
    | inl need ↦ inl need
    | inr (inl (listed, over)) ↦ inr (leaves_at log b g w i l op third told had at behind (inr (inl over)))
    | inr (inr misses) ↦
        let x = log.extent in
        inr (leaves_at log b g w i l op third told had at behind (inr (inr (λ k n size agrees same agreed.
        misses n
        (alike_there (after x.base x.block k third) n w same ∙ leaves k agrees (ap (λ z. refusal x.base z x.block third) size ∙ served))
        agreed))))
  ]

  -- what the operation leaves, where it is answered so and v stands at one of its words then
  module _ (third : Op) (made : Reply) (b w v : ℕ) (inside : HasWord log.extent.base third w) (served : refusal log.extent.base log.extent.size log.extent.block third ≡ None)
      (leaves : LeavesWord log.extent third (Some made) w v) where
    over_all : (one : Op) (told : Option Reply) → count_of third ≤ 4 → Overlooks log.extent one told (word log.extent w) → Overlooks log.extent one told third
    over_all one told few over m n size same = over m n size (record {
      size = same.size;
      others = λ k out. same.others k (elim out [
        | inl before ↦ inl (omega (arith, before, few, inside.1, inside.2))
        | inr behind ↦ inr (omega (arith, behind, few, inside.1, inside.2))
      ]);
    })

    stands : (k n : List ℕ) → length k ≡ log.extent.size → Agrees log.extent.base log.extent.block k third (Some made)
        → AreSameAt log.extent.base third (after log.extent.base log.extent.block k third) n → value_in n (4 * w) ≡ v
    stands k n size agrees same =
        let x = log.extent in
        value_alike n (after x.base x.block k third) (4 * w) (4 * w) (λ i l. same (4 * w + i) (omega (arith, inside.1)) (omega (arith, inside.2, l)))
        ∙ leaves k agrees (ap (λ z. refusal x.base z x.block third) size ∙ served)

    pub made_or : NamesWord log b w → w < log.extent.size / 4
        → MayNeed t w v b ⊎ (Has t.careless w b × (count_of third ≤ 4 → IsJunkBehind log third made b)) ⊎ IsJunkBehind log third made b
    made_or (i, op, told, at, touches) within = elim (by_need b i w v op told at touches within) [
      | inl need ↦ inl need
      | inr (inl (listed, over)) ↦ inr (inl (listed, λ few. behind_at log b i op third told made at (inr (inl (over_all op told few over)))))
      | inr (inr misses) ↦ inr (inr (behind_at log b i op third told made at (inr (inr (λ k n size agrees same agreed. misses n (stands k n size agrees same) agreed)))))
    ]

  module _ (brings : (base block : ℕ) (m : List ℕ) (one other : Op) (reply : Reply) → (refusal base (length m) block one ≡ None → answer base block (after base block m one) other ≡ reply → ⊥)
      → answer base block (after base block m one) other ≡ reply → answer base block m other ≡ reply)
      (order : (base block : ℕ) (m : List ℕ) (one other : Op) (told : Option Reply) (reply : Reply) → (refusal base (length m) block one ≡ None → answer base block (after base block m one) other ≡ reply → ⊥)
      → Agrees base block m one told → answer base block m other ≡ reply
      → (answer base block (after base block m one) other ≡ reply → ⊥)
      ⊎ ((answer base block (after base block m one) other ≡ reply) × Agrees base block (after base block m other) one told
      × (after base block (after base block m one) other ≡ after base block (after base block m other) one)))
      (b q w v : ℕ) (needs : NeedsWordAt log q w v) where
    -- the request is in a list, or takes away what q needs
    by_left : (i : ℕ) (op : Op) (told : Option Reply) → slice_get log.events b ≡ Some (events.Sub i op told) → Touches log.extent.base op w ⊎ (count_of op ≡ 0) → w < log.extent.size / 4
        → (InList t.wide b ⊎ Has t.loose w b ⊎ Has t.left (key w v) b)
        ⊎ ((m : List ℕ) → Agrees log.extent.base log.extent.block m op told → refusal log.extent.base (length m) log.extent.block op ≡ None
        → (other : Op) (reply : Reply) → NeedsWord log.extent other (Some reply) w v → answer log.extent.base log.extent.block (after log.extent.base log.extent.block m op) other ≡ reply → ⊥)
    by_left i op told at touches within = elim (known_at b i w op told at touches within) [
      | inl many ↦ inl (inl many)
      | inr (touched, known) ↦ elim known.left [
        | inl loose ↦ inl (inr (inl loose))
        | inr (u, has, leaves) ↦ elim (cases_eq u v) [
          | inl same ↦ inl (inr (inr (subst (λ z. Has t.left (key w z) b) same has)))
          | inr differ ↦ inr (λ m agrees served other reply need found. differ (sym (leaves m agrees served) ∙ need (after log.extent.base log.extent.block m op) (λ r e. found ∙ same_Some reply r e)))
        ]
      ]
    ]

    pub brings_or : NamesWord log b w → w < log.extent.size / 4 → (InList t.wide b ⊎ Has t.loose w b ⊎ Has t.left (key w v) b) ⊎ NeverBrings log b q
    unfolding reply_of acted_on bytes_after
    brings_or (i, op, told, at, touches) within = elim (by_left i op told at touches within) [
      | inl near ↦ inl near
      | inr takes ↦
          let (j, other, reply, there, need) = needs in
          let x = log.extent in
          inr (λ m agrees suits.
          let here : Agrees x.base x.block m op told = subst (Suits x m) at agrees in
          let then : Agrees x.base x.block (after x.base x.block m op) other (Some reply) =
          subst (Suits x (after x.base x.block m op)) there (subst (λ o. Suits x (acted_on x m o) (slice_get log.events q)) at suits) in
          let before : answer x.base x.block m other ≡ reply = brings x.base x.block m op other reply (λ served found. takes m here served other reply need found) (then reply refl) in
          let suited : Suits x m (Some (events.Sub j other (Some reply))) = λ r e. before ∙ same_Some reply r e in
          subst (Suits x m) (sym there) suited)
    ]

    pub yields_or : NamesWord log b w → w < log.extent.size / 4 → (InList t.wide b ⊎ Has t.loose w b ⊎ Has t.left (key w v) b) ⊎ Yields log b q
    unfolding reply_of acted_on bytes_after
    yields_or (i, op, told, at, touches) within = elim (by_left i op told at touches within) [
      | inl near ↦ inl near
      | inr takes ↦
          let (j, other, reply, there, need) = needs in
          let x = log.extent in
          inr (λ m agrees suits.
          let here : Agrees x.base x.block m op told = subst (Suits x m) at agrees in
          let now : Agrees x.base x.block m other (Some reply) = subst (Suits x m) there suits in
          let way = way_of x.base x.block m op other told (Some reply) reply refl (order x.base x.block m op other told reply (λ served found. takes m here served other reply need found) here (now reply refl)) in
          let ends : Ends x m (after x.base x.block m op) (Some (events.Sub i op told)) (Some (events.Sub j other (Some reply))) = way in
          subst (λ o. Ends x m (acted_on x m o) o (slice_get log.events q)) (sym at) (subst (Ends x m (after x.base x.block m op) (Some (events.Sub i op told))) (sym there) ends))
    ]
