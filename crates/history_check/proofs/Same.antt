-- The tests of equality tell equality.
use Rattle.std.proofs.Common.{◌≡◌, ℕ, true, List, [], ◌∷◌, refl, ap, arith}
use Rattle.std.specs.Prelude.{◌==◌, ◌&&◌, bytes_eq}
use Rattle.std.proofs.lemmas.Bool.{eqb-true, eq-eqb, and_parts, and_from}
use Rattle.tlp_core.specs.Ops.{Op}
use Rattle.tlp_core.specs.declared.operation.OpOf.TheVariants as ops
use Rattle.tlp_core.specs.declared.operation.Width.{Width}
use Rattle.tlp_core.specs.declared.operation.Width.TheVariants as widths
use Rattle.tlp_core.specs.Operation.{size_of}
use Rattle.seq_memory.specs.Entries.{Reply}
use Rattle.seq_memory.specs.declared.reply.ReplyOf.TheVariants as replies
use Rattle.history_words.specs.Flaws.{same_op, same_reply}

pub bytes_same : (xs ys : List ℕ) → bytes_eq xs ys ≡ true → xs ≡ ys
bytes_same [] [] e = refl
bytes_same [] (y ∷ ys) e = cc
bytes_same (x ∷ xs) [] e = cc
bytes_same (x ∷ xs) (y ∷ ys) e =
    let (e1, e2) = and_parts (x == y) (bytes_eq xs ys) e in
    let header = eqb-true x y e1 in
    let tail = bytes_same xs ys e2 in
    cc

pub bytes_refl : (xs : List ℕ) → bytes_eq xs xs ≡ true
bytes_refl [] = refl
bytes_refl (x ∷ xs) = and_from (x == x) (bytes_eq xs xs) (eq-eqb x x refl) (bytes_refl xs)

pub op_refl : (op : Op) → same_op op op ≡ true
op_refl (ops.Read a d f l) = rw (eq-eqb a a refl, eq-eqb d d refl, eq-eqb f f refl, eq-eqb l l refl) refl
op_refl (ops.Write a f l xs) = rw (eq-eqb a a refl, eq-eqb f f refl, eq-eqb l l refl, bytes_refl xs.items) refl
op_refl (ops.FetchAdd a w x) = rw (eq-eqb a a refl, eq-eqb (size_of w) (size_of w) refl, eq-eqb x x refl) refl
op_refl (ops.Swap a w x) = rw (eq-eqb a a refl, eq-eqb (size_of w) (size_of w) refl, eq-eqb x x refl) refl
op_refl (ops.Cas a w x y) = rw (eq-eqb a a refl, eq-eqb (size_of w) (size_of w) refl, eq-eqb x x refl, eq-eqb y y refl) refl

width_same : (v w : Width) → size_of v ≡ size_of w → v ≡ w
width_same widths.Four widths.Four e = refl
width_same widths.Four widths.Eight e = absurd (omega arith)
width_same widths.Four widths.Sixteen e = absurd (omega arith)
width_same widths.Eight widths.Four e = absurd (omega arith)
width_same widths.Eight widths.Eight e = refl
width_same widths.Eight widths.Sixteen e = absurd (omega arith)
width_same widths.Sixteen widths.Four e = absurd (omega arith)
width_same widths.Sixteen widths.Eight e = absurd (omega arith)
width_same widths.Sixteen widths.Sixteen e = refl

pub op_same : (x y : Op) → same_op x y ≡ true → x ≡ y
op_same (ops.Read a d f l) (ops.Read b e g m) h =
    let (h1, l_is) = and_parts ((a == b) && (d == e) && (f == g)) (l == m) h in
    let (h2, f_is) = and_parts ((a == b) && (d == e)) (f == g) h1 in
    let (a_is, d_is) = and_parts (a == b) (d == e) h2 in
    rw (eqb-true a b a_is, eqb-true d e d_is, eqb-true f g f_is, eqb-true l m l_is) refl
op_same (ops.Write a f l xs) (ops.Write b g m ys) h =
    let (h1, bytes_is) = and_parts ((a == b) && (f == g) && (l == m)) (bytes_eq xs.items ys.items) h in
    let (h2, l_is) = and_parts ((a == b) && (f == g)) (l == m) h1 in
    let (a_is, f_is) = and_parts (a == b) (f == g) h2 in
    let e = bytes_same xs.items ys.items bytes_is in
    rw (eqb-true a b a_is, eqb-true f g f_is, eqb-true l m l_is) (ap (λ (items : List ℕ). ops.Write b g m (record { items = items })) e)
op_same (ops.FetchAdd a w x) (ops.FetchAdd b v y) h =
    let (h1, x_is) = and_parts ((a == b) && (size_of w == size_of v)) (x == y) h in
    let (a_is, w_is) = and_parts (a == b) (size_of w == size_of v) h1 in
    rw (eqb-true a b a_is, width_same w v (eqb-true (size_of w) (size_of v) w_is), eqb-true x y x_is) refl
op_same (ops.Swap a w x) (ops.Swap b v y) h =
    let (h1, x_is) = and_parts ((a == b) && (size_of w == size_of v)) (x == y) h in
    let (a_is, w_is) = and_parts (a == b) (size_of w == size_of v) h1 in
    rw (eqb-true a b a_is, width_same w v (eqb-true (size_of w) (size_of v) w_is), eqb-true x y x_is) refl
op_same (ops.Cas a w x s) (ops.Cas b v y t) h =
    let (h1, s_is) = and_parts ((a == b) && (size_of w == size_of v) && (x == y)) (s == t) h in
    let (h2, x_is) = and_parts ((a == b) && (size_of w == size_of v)) (x == y) h1 in
    let (a_is, w_is) = and_parts (a == b) (size_of w == size_of v) h2 in
    rw (eqb-true a b a_is, width_same w v (eqb-true (size_of w) (size_of v) w_is), eqb-true x y x_is, eqb-true s t s_is) refl
op_same _ _ h = cc

pub reply_refl : (r : Reply) → same_reply r r ≡ true
reply_refl replies.Done = refl
reply_refl (replies.Data xs) = bytes_refl xs.items
reply_refl replies.Unsupported = refl
reply_refl replies.Aborted = refl

pub reply_same : (x y : Reply) → same_reply x y ≡ true → x ≡ y
reply_same replies.Done replies.Done h = refl
reply_same (replies.Data xs) (replies.Data ys) h = ap (λ (items : List ℕ). replies.Data (record { items = items })) (bytes_same xs.items ys.items h)
reply_same replies.Unsupported replies.Unsupported h = refl
reply_same replies.Aborted replies.Aborted h = refl
reply_same _ _ h = cc
