use Rattle.std.proofs.Common.{◌≡◌, ◌++◌, ◌∷◌, [], length, set, get_or, map, ap, ◌∙◌, sym, List, ℕ, Vec, Global, arith, ◌<◌}
use Rattle.std.proofs.lemmas.List.{map-set, get_or-map, length-map}
use Rattle.search_words.proofs.lists.Lists.push_to.Goals as goal

abbrev items_of : Vec ℕ Global → List ℕ
items_of v = v.items

row_is : (rows : List (Vec ℕ Global)) (i : ℕ) (v : Vec ℕ Global) → i < length rows → v ≡ get_or rows i v → v.items ≡ get_or (map items_of rows) i []
row_is rows i v within e = ap items_of e ∙ sym (get_or-map items_of rows i v [] within)

added_row : (rows : List (Vec ℕ Global)) (shown : List (List ℕ)) (i a : ℕ) (v w : Vec ℕ Global) → map items_of rows ≡ shown → i < length rows → v ≡ get_or rows i v → w.items ≡ v.items ++ a ∷ [] → map items_of (set rows i w) ≡ set shown i (get_or shown i [] ++ a ∷ [])
added_row rows shown i a v w e within read pushed =
    let row = row_is rows i v within read in
    map-set items_of rows i w
    ∙ ap (λ (row : List ℕ). set (map items_of rows) i row) (pushed ∙ ap (λ (row : List ℕ). row ++ a ∷ []) row)
    ∙ ap (λ (shown : List (List ℕ)). set shown i (get_or shown i [] ++ a ∷ [])) e

pub returns-clause-several : goal.returns-clause-several
returns-clause-several c =
    added_row c.self.inside.several.items c.args.self.now.several c.args.at c.args.place c.index_mut.result.now c.push.new.self (ap (λ v. v.several) c.self.view_is) (omega (arith, c.requires, sym (length-map c.self.inside.several.items items_of) ∙ ap length (ap (λ v. v.several) c.self.view_is))) c.index_mut.ensures.value c.in_ok-push.ensures.items
