use Rattle.std.proofs.Common.{◌≡◌, ◌∙◌, ℕ, length, List, Vec, Global, ap, sym, arith, Some}
use Rattle.std.specs.Prelude.{cond, nat_eq}
use Rattle.std.proofs.lemmas.List.{length-map}
use Rattle.std.specs.Map.{lookup}
use Rattle.search_words.specs.declared.lists.Spot.TheVariants as spots
use Rattle.search_words.specs.Lists.{spot_of}
use Rattle.search_words.proofs.ListLemmas.{adds_second}
use Rattle.search_words.proofs.lists.Lists.add_second.Goals as goal

abbrev items_of : Vec ℕ Global → List ℕ
items_of v = v.items

pub returns : goal.returns
returns c =
    let old = c.args.self.now in
    let pushed = c.in_ok-push_list.ensures in
    let at : c.len-at.result ≡ length old.several = omega (arith, c.len-at.ensures, sym (length-map c.self.inside.several.items items_of) ∙ ap length (ap (λ v. v.several) c.self.view_is)) in
    adds_second old c.put.new.self c.args.number c.args.one c.args.place
    (c.in_ok-put.ensures.several ∙ pushed.several)
    (λ k. c.in_ok-put.ensures.spots k
    ∙ ap (λ (i : ℕ). cond (nat_eq c.args.number k) (Some (spots.Several i)) (spot_of c.push_list.new.self k)) at
    ∙ ap (λ es. cond (nat_eq c.args.number k) (Some (spots.Several (length old.several))) (lookup (nat_eq k) es)) pushed.spots)
    c.requires.one c.requires.rising
