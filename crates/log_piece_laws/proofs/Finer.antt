-- What is explained in pieces is explained in finer ones.
use Rattle.std.proofs.Common.{◌≡◌, ◌∙◌, ℕ, zero, suc, ◌%◌, ◌≤◌, ◌++◌, ◌∷◌, [], List, Bool, true, false, map, refl, sym, ap, subst, inl, inr, arith}
use Rattle.std.specs.Prelude.{◌&&◌, if◌then◌else◌}
use Rattle.std.specs.List.{list_all}
use Rattle.std.proofs.lemmas.Bool.{cases_Bool}
use Rattle.std.proofs.lemmas.List.{append-nil}
use Rattle.tlp_core.specs.Ops.{Op}
use Rattle.tlp_core.specs.Operation.{count_of}
use Rattle.seq_memory.specs.Limits.{Extent}
use Rattle.history_words.specs.TraceView.{TraceView, observed}
use Rattle.log_runs.specs.Explainable.{IsExplainable}
use Rattle.op_pieces.specs.Pieces.{dw_of, dw_to, cut, is_served}
use Rattle.log_pieces.specs.declared.Granularity.{Granularity}
use Rattle.log_pieces.specs.declared.Granularity.TheVariants as sizes
use Rattle.log_pieces.specs.Pieces.{pieces}
use Rattle.log_pieces.specs.InPieces.{in_pieces, cut_log, split_all, IsExplainableIn}
use Rattle.log_piece_laws.specs.Sizes.{IsFiner}
use Rattle.log_piece_laws.proofs.Lists.{concat, same_functions}
use Rattle.log_piece_laws.proofs.Cuts.{AreSizes, cut_fits, cut_twice, some_pieces, all_counted, counts}
use Rattle.log_piece_laws.proofs.Serving.{pieces_served, served_access}
use Rattle.log_piece_laws.proofs.Twice.{twice, Cuts, records_twice}

if_true : {X : Type 0} → (b : Bool) (x y : X) → b ≡ true → (if b then x else y) ≡ x
if_true true x y e = refl
if_true false x y e = absurd (cc e)

if_false : {X : Type 0} → (b : Bool) (x y : X) → b ≡ false → (if b then x else y) ≡ y
if_false true x y e = absurd (cc e)
if_false false x y e = refl

and_true : (a b : Bool) → a ≡ true → b ≡ true → (a && b) ≡ true
and_true true true p q = refl
and_true true false p q = absurd (cc q)
and_true false b p q = absurd (cc p)

and_false : (a b : Bool) → a ≡ false → (a && b) ≡ false
and_false false b p = refl
and_false true b p = absurd (cc p)

both_true : (a b : Bool) → (a && b) ≡ true → (a ≡ true) × (b ≡ true)
both_true true b h = (refl, h)
both_true false b h = absurd (cc)

-- a size, of which the laws say something
record IsSize (b : ℕ) : Type 0 where
  dw : (a : ℕ) → a % 4 ≡ 0 → 1 ≤ dw_to b a

pieces_whole : (b : ℕ) (x : Extent) (op : Op) → is_served x op ≡ false → pieces b x op ≡ op ∷ []
pieces_whole b x op h = if_false (is_served x op && list_all (is_served x) (cut b (dw_of op) op)) (cut b (dw_of op) op) (op ∷ []) (and_false (is_served x op) (list_all (is_served x) (cut b (dw_of op) op)) h)

pieces_cut : (b : ℕ) (x : Extent) (op : Op) → IsSize b → is_served x op ≡ true → pieces b x op ≡ cut b (dw_of op) op
pieces_cut b x op size h =
    if_true (is_served x op && list_all (is_served x) (cut b (dw_of op) op)) (cut b (dw_of op) op) (op ∷ [])
    (and_true (is_served x op) (list_all (is_served x) (cut b (dw_of op) op)) h (pieces_served x b size.dw op h))

pub pieces_cuts : (b : ℕ) (x : Extent) → Cuts (pieces b x)
pieces_cuts b x = record {
  some = λ op. by (is_served x op && list_all (is_served x) (cut b (dw_of op) op)) op;
  counted = λ op. all (is_served x op && list_all (is_served x) (cut b (dw_of op) op)) op;
}
  where
    by : (c : Bool) (op : Op) → (o : Op) × (os : List Op) × ((if c then cut b (dw_of op) op else op ∷ []) ≡ o ∷ os)
    by true op = some_pieces b (dw_of op) op
    by false op = (op, [], refl)

    all : (c : Bool) (op : Op) → counts (if c then cut b (dw_of op) op else op ∷ []) ≡ count_of op
    all true op = all_counted b (dw_of op) op
    all false op = omega arith

served_pieces : (b : ℕ) (x : Extent) → IsSize b → (ops : List Op) → list_all (is_served x) ops ≡ true → concat (map (pieces b x) ops) ≡ concat (map (λ o. cut b (dw_of o) o) ops)
served_pieces b x size [] h = refl
served_pieces b x size (op ∷ ops) h =
    let both = both_true (is_served x op) (list_all (is_served x) ops) h in
    ap (λ xs. xs ++ concat (map (pieces b x) ops)) (pieces_cut b x op size both.0) ∙ ap (λ xs. cut b (dw_of op) op ++ xs) (served_pieces b x size ops both.1)

-- the pieces of an operation's larger pieces are its pieces
pieces_twice : (b c : ℕ) (x : Extent) → AreSizes b c → (op : Op) → twice (pieces b x) (pieces c x) op ≡ pieces b x op
pieces_twice b c x are op = elim (cases_Bool (is_served x op)) [
  | inl served ↦
      let small : IsSize b = record { dw = are.small } in
      let large : IsSize c = record { dw = are.large } in
      let all = pieces_served x c are.large op served in
      ap (λ xs. concat (map (pieces b x) xs)) (pieces_cut c x op large served) ∙ served_pieces b x small (cut c (dw_of op) op) all
      ∙ by (dw_of op) refl served ∙ sym (pieces_cut b x op small served)
  | inr refused ↦
      ap (λ xs. concat (map (pieces b x) xs)) (pieces_whole c x op refused) ∙ append-nil (pieces b x op)
]
  where
    by : (n : ℕ) → dw_of op ≡ n → is_served x op ≡ true → concat (map (λ o. cut b (dw_of o) o) (cut c (dw_of op) op)) ≡ cut b (dw_of op) op
    by zero e served =
        ap (λ xs. concat (map (λ o. cut b (dw_of o) o) xs)) (cut_fits c (dw_of op) op (omega (arith, e))) ∙ append-nil (cut b (dw_of op) op)
    by (suc n) e served = cut_twice b c are op (served_access x op served (omega (arith, e)))

again : (b c : ℕ) (t : TraceView) → AreSizes b c → cut_log b (cut_log c t) ≡ cut_log b t
again b c t are =
    let x = observed t in
    let same = records_twice (pieces b x) (pieces c x) (pieces_cuts b x) t.records
    ∙ ap (λ p. split_all p [] t.records) (same_functions (twice (pieces b x) (pieces c x)) (pieces b x) (pieces_twice b c x are)) in
    ap (λ rs. record t { records = rs }) same

sizes_4_8 : AreSizes 4 8
sizes_4_8 = record { small = λ a h. omega (arith, h); large = λ a h. omega (arith, h); first = λ a e h some end. omega (arith, h, some, end); ends = λ a h. omega (arith, h) }

sizes_4_16 : AreSizes 4 16
sizes_4_16 = record { small = λ a h. omega (arith, h); large = λ a h. omega (arith, h); first = λ a e h some end. omega (arith, h, some, end); ends = λ a h. omega (arith, h) }

sizes_4_64 : AreSizes 4 64
sizes_4_64 = record { small = λ a h. omega (arith, h); large = λ a h. omega (arith, h); first = λ a e h some end. omega (arith, h, some, end); ends = λ a h. omega (arith, h) }

sizes_8_16 : AreSizes 8 16
sizes_8_16 = record { small = λ a h. omega (arith, h); large = λ a h. omega (arith, h); first = λ a e h some end. omega (arith, h, some, end); ends = λ a h. omega (arith, h) }

sizes_8_64 : AreSizes 8 64
sizes_8_64 = record { small = λ a h. omega (arith, h); large = λ a h. omega (arith, h); first = λ a e h some end. omega (arith, h, some, end); ends = λ a h. omega (arith, h) }

sizes_16_64 : AreSizes 16 64
sizes_16_64 = record { small = λ a h. omega (arith, h); large = λ a h. omega (arith, h); first = λ a e h some end. omega (arith, h, some, end); ends = λ a h. omega (arith, h) }

-- whole requests are right in pieces
abbrev pub Law : Type 0
Law = (size : Granularity) (t : TraceView) → IsExplainable t → IsExplainableIn size t

at_four : Law → (t : TraceView) → IsExplainable t → IsExplainable (cut_log 4 t)
unfolding in_pieces
at_four law t e = law sizes.Four t e

at_eight : Law → (t : TraceView) → IsExplainable t → IsExplainable (cut_log 8 t)
unfolding in_pieces
at_eight law t e = law sizes.Eight t e

at_sixteen : Law → (t : TraceView) → IsExplainable t → IsExplainable (cut_log 16 t)
unfolding in_pieces
at_sixteen law t e = law sizes.Sixteen t e

finer : (b c : ℕ) → AreSizes b c → ((t : TraceView) → IsExplainable t → IsExplainable (cut_log b t)) → (t : TraceView) → IsExplainable (cut_log c t) → IsExplainable (cut_log b t)
finer b c are law t e = subst IsExplainable (again b c t are) (law (cut_log c t) e)

pub finer_explained : Law → (small large : Granularity) (t : TraceView) → IsFiner small large → IsExplainableIn large t → IsExplainableIn small t
unfolding in_pieces
finer_explained law small sizes.Whole t f e = law small t e
finer_explained law sizes.Whole sizes.Four t f e = absurd f
finer_explained law sizes.Whole sizes.Eight t f e = absurd f
finer_explained law sizes.Whole sizes.Sixteen t f e = absurd f
finer_explained law sizes.Whole sizes.SixtyFour t f e = absurd f
finer_explained law sizes.Four sizes.Four t f e = e
finer_explained law sizes.Four sizes.Eight t f e = finer 4 8 sizes_4_8 (at_four law) t e
finer_explained law sizes.Four sizes.Sixteen t f e = finer 4 16 sizes_4_16 (at_four law) t e
finer_explained law sizes.Four sizes.SixtyFour t f e = finer 4 64 sizes_4_64 (at_four law) t e
finer_explained law sizes.Eight sizes.Four t f e = absurd (omega (arith, f))
finer_explained law sizes.Eight sizes.Eight t f e = e
finer_explained law sizes.Eight sizes.Sixteen t f e = finer 8 16 sizes_8_16 (at_eight law) t e
finer_explained law sizes.Eight sizes.SixtyFour t f e = finer 8 64 sizes_8_64 (at_eight law) t e
finer_explained law sizes.Sixteen sizes.Four t f e = absurd (omega (arith, f))
finer_explained law sizes.Sixteen sizes.Eight t f e = absurd (omega (arith, f))
finer_explained law sizes.Sixteen sizes.Sixteen t f e = e
finer_explained law sizes.Sixteen sizes.SixtyFour t f e = finer 16 64 sizes_16_64 (at_sixteen law) t e
finer_explained law sizes.SixtyFour sizes.Four t f e = absurd (omega (arith, f))
finer_explained law sizes.SixtyFour sizes.Eight t f e = absurd (omega (arith, f))
finer_explained law sizes.SixtyFour sizes.Sixteen t f e = absurd (omega (arith, f))
finer_explained law sizes.SixtyFour sizes.SixtyFour t f e = e
