-- The parts in the slots, port by port.
use Rattle.std.proofs.Common.{◌≡◌, ◌<◌, List, [], ◌∷◌, ◌++◌, length, map, sym, ap, ◌∙◌, arith, Some, Option, append_assoc}
use Rattle.std.specs.Prelude.{remove, slice_index_or}
use Rattle.std.proofs.lemmas.List.{map-append}
use Rattle.requester_core.specs.RequesterView.{RequesterView}
use Rattle.lane_core.specs.Steps.{LaneEndsView}
use Rattle.hall_laws.specs.declared.part.PartValue.{PartValue}
use Rattle.hall_laws.specs.declared.part.PartValue.TheVariants.{Requester}
use Rattle.hall_laws.specs.Parts.{Station, nine, flat, stations}

-- the first of a list is removed
pub first_out : {X : Type 0} (xs ys : List X) (x : X) → 0 < length xs → x ≡ slice_index_or xs 0 x → ys ≡ remove xs 0 → xs ≡ x ∷ ys
first_out [] ys x some is rest = absurd (omega arith)
first_out (z ∷ xs) ys x some is rest = let same : x ≡ z = is in let tail : ys ≡ xs = rest in cc

pub pushed_station : (slots slots' all : List (Option PartValue)) (qs qs' : List RequesterView) (us us' ds ds' : List LaneEndsView) (q : RequesterView) (u d : LaneEndsView)
    → slots ++ map Some (flat (stations qs us ds)) ≡ all → qs ≡ q ∷ qs' → us ≡ u ∷ us' → ds ≡ d ∷ ds' → slots' ≡ slots ++ map Some (nine (record { node = Requester q; first = u; second = d }))
    → slots' ++ map Some (flat (stations qs' us' ds')) ≡ all
pushed_station slots slots' all qs qs' us us' ds ds' q u d inv a b c now =
    let s : Station = record { node = Requester q; first = u; second = d } in
    let rest : List PartValue = flat (stations qs' us' ds') in
    let front : flat (stations qs us ds) ≡ nine s ++ rest = ap (λ (z : List RequesterView). flat (stations z us ds)) a ∙ (ap (λ (z : List LaneEndsView). flat (stations (q ∷ qs') z ds)) b ∙ ap (λ (z : List LaneEndsView). flat (stations (q ∷ qs') (u ∷ us') z)) c) in
    ap (λ (l : List (Option PartValue)). l ++ map Some rest) now ∙ (append_assoc slots (map Some (nine s)) (map Some rest)
    ∙ (ap (λ (l : List (Option PartValue)). slots ++ l) (sym (map-append Some (nine s) rest)) ∙ (ap (λ (l : List PartValue). slots ++ map Some l) (sym front) ∙ inv)))
