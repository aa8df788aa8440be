-- Bytes that are the same but for words that nobody needs.
use Rattle.std.proofs.Common.{◌≡◌, ◌∙◌, ◌⊎◌, inl, inr, ℕ, zero, suc, ◌+◌, ◌*◌, ◌≤◌, ◌<◌, List, [], ◌∷◌, Option, length, refl, sym, ap, subst, arith}
use Rattle.std.specs.Prelude.{slice_index}
use Rattle.std.proofs.lemmas.Bool.{cases_lt}
use Rattle.tlp_core.specs.Ops.{Op}
use Rattle.tlp_core.specs.Operation.{address_of, count_of}
use Rattle.seq_memory.specs.Entries.{Reply}
use Rattle.seq_memory.specs.Limits.{Extent}
use Rattle.seq_memory.specs.Step.{after, answer}
use Rattle.search_effects.specs.Effects.{Agrees, AreApart, AreSameAt, AreSameBut}
use Rattle.search_rules.specs.Junk.{Touches, word, HasAddresses, IsJunk, LeavesJunk}
use Rattle.search_rules.proofs.FirstLemmas.{Others}

abbrev pub Answered : Type 0
Answered = (base block : ℕ) (m n : List ℕ) (op : Op) → length n ≡ length m → AreSameAt base op m n → answer base block n op ≡ answer base block m op

abbrev pub Bytes : Type 0
Bytes = (base block k : ℕ) (m n : List ℕ) (op : Op) → length n ≡ length m → AreSameAt base op m n → slice_index n k ≡ slice_index m k → slice_index (after base block n op) k ≡ slice_index (after base block m op) k

abbrev pub Sizes : Type 0
Sizes = (base block : ℕ) (m : List ℕ) (op : Op) → length (after base block m op) ≡ length m

-- ---- the first bytes of the one, so many, and then the other's

splice : ℕ → List ℕ → List ℕ → List ℕ
splice zero ys xs = xs
splice (suc j) ys [] = []
splice (suc j) [] (x ∷ xs) = x ∷ xs
splice (suc j) (y ∷ ys) (x ∷ xs) = y ∷ splice j ys xs

splice_size : (j : ℕ) (ys xs : List ℕ) → length (splice j ys xs) ≡ length xs
unfolding splice
splice_size zero ys xs = refl
splice_size (suc j) ys [] = refl
splice_size (suc j) [] (x ∷ xs) = refl
splice_size (suc j) (y ∷ ys) (x ∷ xs) = ap suc (splice_size j ys xs)

splice_low : (j : ℕ) (ys xs : List ℕ) (k : ℕ) → length ys ≡ length xs → k < j → slice_index (splice j ys xs) k ≡ slice_index ys k
unfolding splice
splice_low zero ys xs k e low = absurd (omega (arith, low))
splice_low (suc j) [] [] k e low = refl
splice_low (suc j) (y ∷ ys) [] k e low = absurd (omega (arith, e))
splice_low (suc j) [] (x ∷ xs) k e low = absurd (omega (arith, e))
splice_low (suc j) (y ∷ ys) (x ∷ xs) zero e low = refl
splice_low (suc j) (y ∷ ys) (x ∷ xs) (suc k) e low = splice_low j ys xs k (omega (arith, e)) (omega (arith, low))

splice_high : (j : ℕ) (ys xs : List ℕ) (k : ℕ) → j ≤ k → slice_index (splice j ys xs) k ≡ slice_index xs k
unfolding splice
splice_high zero ys xs k high = refl
splice_high (suc j) ys [] k high = refl
splice_high (suc j) [] (x ∷ xs) k high = refl
splice_high (suc j) (y ∷ ys) (x ∷ xs) zero high = absurd (omega (arith, high))
splice_high (suc j) (y ∷ ys) (x ∷ xs) (suc k) high = splice_high j ys xs k (omega (arith, high))

splice_all : (j : ℕ) (ys xs : List ℕ) → length ys ≡ length xs → length xs ≤ j → splice j ys xs ≡ ys
unfolding splice
splice_all zero [] [] e all = refl
splice_all zero (y ∷ ys) [] e all = absurd (omega (arith, e))
splice_all zero ys (x ∷ xs) e all = absurd (omega (arith, all))
splice_all (suc j) [] [] e all = refl
splice_all (suc j) (y ∷ ys) [] e all = absurd (omega (arith, e))
splice_all (suc j) [] (x ∷ xs) e all = absurd (omega (arith, e))
splice_all (suc j) (y ∷ ys) (x ∷ xs) e all = ap (λ zs. y ∷ zs) (splice_all j ys xs (omega (arith, e)) (omega (arith, all)))

-- ---- an operation and a word

pub touches_or_apart : (x : Extent) (op : Op) (w : ℕ) → Touches x.base op w ⊎ AreApart op (word x w)
touches_or_apart x op w = elim (cases_lt (x.base + 4 * w) (address_of op + count_of op)) [
  | inl front ↦ elim (cases_lt (address_of op) (x.base + 4 * w + 4)) [
    | inl back ↦ inl (front, back)
    | inr high ↦ inr (inr (omega (arith, high)))
  ]
  | inr low ↦ inr (inl low)
]

-- the bytes of word w are the same
abbrev pub SameWord : Extent → ℕ → List ℕ → List ℕ → Type 0
SameWord x w m n = AreSameAt x.base (word x w) m n

joined : (x : Extent) (w : ℕ) (l m n : List ℕ) → SameWord x w l m → SameWord x w m n → SameWord x w l n
joined x w l m n one two k front back = two k front back ∙ one k front back

-- it is another word, or the same
elsewhere : (x : Extent) (j w : ℕ) (m n : List ℕ) → AreSameBut x.base (word x j) m n → SameWord x w m n ⊎ (w ≡ j)
elsewhere x j w m n same = elim (cases_lt w j) [
  | inl less ↦ inl (λ k front back. same.others k (inl (omega (arith, less, back))))
  | inr most ↦ elim (cases_lt j w) [
    | inl more ↦ inl (λ k front back. same.others k (inr (omega (arith, more, front))))
    | inr least ↦ inr (omega (arith, most, least))
  ]
]

-- what stands at word w in m is nothing to those that are left
abbrev pub Junk : Extent → (Op → Option Reply → Type 0) → List ℕ → ℕ → Type 0
Junk x Left m w = (one : Op) (told : Option Reply) → Left one told → IsJunk x m one told (word x w)

-- the same, but for words that are junk in m
pub record Alike (x : Extent) (Left : Op → Option Reply → Type 0) (m n : List ℕ) : Type 0 where
  pub size : length n ≡ length m
  pub words : (w : ℕ) → SameWord x w m n ⊎ Junk x Left m w

module _ (answered : Answered) (bytes_of : Bytes) (others : Others) (sizes : Sizes) where
  -- an operation that is apart sees the same
  same_there : (base : ℕ) (m n : List ℕ) (op other : Op) → AreApart op other → AreSameBut base other m n → AreSameAt base op m n
  same_there base m n op other (inl low) same k front back = same.others k (inl (omega (arith, low, back)))
  same_there base m n op other (inr high) same k front back = same.others k (inr (omega (arith, high, front)))

  out_of : (base k : ℕ) (op other : Op) → AreApart op other → address_of other ≤ base + k → base + k < address_of other + count_of other → (base + k < address_of op) ⊎ (address_of op + count_of op ≤ base + k)
  out_of base k op other (inl low) front back = inr (omega (arith, low, front))
  out_of base k op other (inr high) front back = inl (omega (arith, high, back))

  but_after : (base block : ℕ) (m n : List ℕ) (op other : Op) → AreApart op other → AreSameBut base other m n → AreSameBut base other (after base block m op) (after base block n op)
  but_after base block m n op other apart same = record {
    size = sizes base block n op ∙ same.size ∙ sym (sizes base block m op);
    others = λ k out. bytes_of base block k m n op same.size (same_there base m n op other apart same) (same.others k out);
  }

  agrees_there : (x : Extent) (m n : List ℕ) (op : Op) (told : Option Reply) → length n ≡ length m → AreSameAt x.base op m n → Agrees x.base x.block m op told → Agrees x.base x.block n op told
  agrees_there x m n op told size same agrees r e = answered x.base x.block m n op size same ∙ agrees r e

  -- it leaves a word that it has no byte of
  word_stays : (x : Extent) (m : List ℕ) (op : Op) (w : ℕ) → AreApart op (word x w) → SameWord x w m (after x.base x.block m op)
  word_stays x m op w apart k front back = others x.base x.block k m op (out_of x.base k op (word x w) apart front back)

  among : (base k : ℕ) (third other : Op) → HasAddresses other third → (base + k < address_of other) ⊎ (address_of other + count_of other ≤ base + k) → (base + k < address_of third) ⊎ (address_of third + count_of third ≤ base + k)
  among base k third other within (inl low) = inl (omega (arith, within.0, low))
  among base k third other within (inr high) = inr (omega (arith, within.1, high))

  -- one whose addresses are among the other's changes nothing but there
  pub changed_there : (x : Extent) (m : List ℕ) (third other : Op) → HasAddresses other third
      → AreSameBut x.base other m (after x.base x.block m third)
  changed_there x m third other within = record {
    size = sizes x.base x.block m third;
    others = λ k out. others x.base x.block k m third (among x.base k third other within out);
  }

  module _ (x : Extent) (Left : Op → Option Reply → Type 0) where
    -- junk is junk wherever its word is the same
    junk_same : (m n : List ℕ) (w : ℕ) → SameWord x w m n → Junk x Left m w → Junk x Left n w
    junk_same m n w same junk one told left = elim (junk one told left) [
      | inl away ↦ inl away
      | inr (inl overlooks) ↦ inr (inl overlooks)
      | inr (inr misses) ↦ inr (inr (λ l here. misses l (joined x w m n l same here)))
    ]

    -- ---- one that is left acts on both

    module _ (m n : List ℕ) (one : Op) (told : Option Reply) (size : length m ≡ x.size) (alike : Alike x Left m n)
        (agrees : Agrees x.base x.block m one told) (left : Left one told) where
      -- it acts on l too, and leaves the same but for junk
      Follows : List ℕ → Type 0
      Follows l = Agrees x.base x.block l one told × ((w : ℕ) → SameWord x w (after x.base x.block m one) (after x.base x.block l one) ⊎ Junk x Left (after x.base x.block m one) w)

      -- where word by word the next is the same but for junk
      further : (l k : List ℕ) → ((w : ℕ) → SameWord x w (after x.base x.block l one) (after x.base x.block k one) ⊎ Junk x Left (after x.base x.block m one) w)
          → Agrees x.base x.block k one told → Follows l → Follows k
      unfolding Follows
      further l k step suited f = (
        suited,
        λ w. elim (f.1 w) [
          | inl so_far ↦ elim (step w) [
            | inl here ↦ inl (joined x w (after x.base x.block m one) (after x.base x.block l one) (after x.base x.block k one) so_far here)
            | inr junk ↦ inr junk
          ]
          | inr junk ↦ inr junk
        ],
      )

      -- the next is the same
      further_same : (l k : List ℕ) → length k ≡ length l → ((i : ℕ) → slice_index k i ≡ slice_index l i) → Follows l → Follows k
      unfolding Follows
      further_same l k long same f =
          let there : AreSameAt x.base one l k = λ i front back. same i in
          further l k (λ w. inl (λ i front back. bytes_of x.base x.block i l k one long there (same i)))
          (agrees_there x l k one told long there f.0) f

      -- the next is the same but for word j, which is junk, and in l is that of m
      further_junk : (l k : List ℕ) (j : ℕ) → length l ≡ length m → AreSameBut x.base (word x j) l k → SameWord x j m l → Junk x Left m j → Follows l → Follows k
      unfolding Follows
      further_junk l k j long but here junk f =
          let l2 = after x.base x.block l one in
          let k2 = after x.base x.block k one in
          let m2 = after x.base x.block m one in
          elim (junk one told left) [
            | inl apart ↦
                let next = but_after x.base x.block l k one (word x j) apart but in
                further l k (λ w. elim (elsewhere x j w l2 k2 next) [
                  | inl same ↦ inl same
                  | inr at ↦ inr (subst (Junk x Left m2) (sym at) (junk_same m m2 j (word_stays x m one j apart) junk))
                ]) (agrees_there x l k one told but.size (same_there x.base l k one (word x j) apart but) f.0) f
            | inr (inl overlooks) ↦
                let (suited, leaves) = overlooks l k (long ∙ size) but f.0 in
                elim leaves [
                  | inl same ↦ further l k (λ w. inl (λ i front back. ap (λ ys. slice_index ys i) same)) suited f
                  | inr (first, second) ↦
                      let next : AreSameBut x.base (word x j) l2 k2 = subst (λ z. AreSameBut x.base (word x j) z k2) (sym first) (subst (AreSameBut x.base (word x j) l) (sym second) but) in
                      further l k (λ w. elim (elsewhere x j w l2 k2 next) [
                        | inl same ↦ inl same
                        | inr at ↦ inr (subst (Junk x Left m2) (sym at) (elim (f.1 j) [
                          | inl so_far ↦
                              let back_l : SameWord x j l2 m2 = λ i front back. sym (so_far i front back) in
                              let from_l : SameWord x j l l2 = λ i front back. ap (λ ys. slice_index ys i) first in
                              junk_same m m2 j (joined x j m l m2 here (joined x j l l2 m2 from_l back_l)) junk
                          | inr there ↦ there
                        ]))
                      ]) suited f
                ]
            | inr (inr misses) ↦ absurd (misses m (λ i front back. refl) agrees)
          ]

      part : ℕ → List ℕ
      part j = splice (4 * j) n m

      -- from one word to the next
      but_word : (j : ℕ) → AreSameBut x.base (word x j) (part j) (part (suc j))
      unfolding part
      but_word j = record {
        size = splice_size (4 * suc j) n m ∙ sym (splice_size (4 * j) n m);
        others = λ k out. elim out [
          | inl low ↦ splice_low (4 * suc j) n m k alike.size (omega (arith, low)) ∙ sym (splice_low (4 * j) n m k alike.size (omega (arith, low)))
          | inr high ↦ splice_high (4 * suc j) n m k (omega (arith, high)) ∙ sym (splice_high (4 * j) n m k (omega (arith, high)))
        ];
      }

      follows : (j : ℕ) → Follows (part j)
      unfolding Follows part splice
      follows zero = (agrees, λ w. inl (λ k front back. refl))
      follows (suc j) = elim (alike.words j) [
        | inl same ↦ further_same (part j) (part (suc j)) (but_word j).size (λ k. elim (cases_lt k (4 * j)) [
          | inl low ↦ (but_word j).others k (inl (omega (arith, low)))
          | inr from ↦ elim (cases_lt k (4 * suc j)) [
            | inl to ↦ splice_low (4 * suc j) n m k alike.size to ∙ same k (omega (arith, from)) (omega (arith, to)) ∙ sym (splice_high (4 * j) n m k from)
            | inr high ↦ (but_word j).others k (inr (omega (arith, high)))
          ]
        ]) (follows j)
        | inr junk ↦ further_junk (part j) (part (suc j)) j (splice_size (4 * j) n m) (but_word j) (λ k front back. splice_high (4 * j) n m k (omega (arith, front))) junk (follows j)
      ]

      pub both : Agrees x.base x.block n one told × Alike x Left (after x.base x.block m one) (after x.base x.block n one)
      unfolding Follows part
      both =
          let all : part (length m) ≡ n = splice_all (4 * length m) n m alike.size (omega arith) in
          let f : Follows n = subst Follows all (follows (length m)) in
          (f.0, record { size = sizes x.base x.block n one ∙ alike.size ∙ sym (sizes x.base x.block m one); words = f.1 })

    -- ---- one of the group acts on the one alone

    pub own : (m n : List ℕ) (third : Op) (had : Option Reply)
        → ((w : ℕ) → Touches x.base third w → (one : Op) (told : Option Reply) → Left one told → LeavesJunk x one told (word x w) third had)
        → length m ≡ x.size → Alike x Left m n → Agrees x.base x.block m third had → Alike x Left (after x.base x.block m third) n
    own m n third had leaves size alike agrees =
        let m2 = after x.base x.block m third in
        record {
          size = alike.size ∙ sym (sizes x.base x.block m third);
          words = λ w. elim (touches_or_apart x third w) [
            | inl touches ↦ inr (λ one told left. elim (leaves w touches one told left) [
              | inl away ↦ inl away
              | inr (inl overlooks) ↦ inr (inl overlooks)
              | inr (inr misses) ↦ inr (inr (λ l same. misses m l size agrees same))
            ])
            | inr apart ↦
                let stays = word_stays x m third w apart in
                elim (alike.words w) [
                  | inl same ↦ inl (λ k front back. same k front back ∙ sym (stays k front back))
                  | inr junk ↦ inr (junk_same m m2 w stays junk)
                ]
          ];
        }

    -- bytes that are the same but for the other's, each of whose words is junk
    pub over : (m n : List ℕ) (other : Op) → AreSameBut x.base other m n → ((w : ℕ) → Touches x.base other w → Junk x Left m w) → Alike x Left m n
    over m n other same junk = record {
      size = same.size;
      words = λ w. elim (touches_or_apart x other w) [
        | inl touches ↦ inr (junk w touches)
        | inr apart ↦ inl (λ k front back. same.others k (out_of x.base k other (word x w) apart front back))
      ];
    }
