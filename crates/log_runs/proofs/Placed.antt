-- The events of a part, one after the other.
use Rattle.std.proofs.Common.{◌≡◌, ◌∙◌, ap, sym, refl, ℕ, ◌+◌, ◌<◌, List, [], ◌∷◌, ◌++◌, length, take, map}
use Rattle.std.specs.Prelude.{Option, Some, None, get_or}
use Rattle.std.proofs.lemmas.List.{map-append, take_more}
use Rattle.seq_memory.specs.Entries.{Reply}
use Rattle.history_words.specs.Records.{Record}
use Rattle.history_words.specs.declared.record.RecordOf.TheVariants as records
use Rattle.log_runs.specs.EventView.{EventView, event_in, part_event, submission_there, unanswered}
use Rattle.log_runs.specs.declared.log.EventAt.{EventAt}
use Rattle.log_runs.specs.declared.log.PartEvent.{PartEvent}

-- a submission without its reply
pub without : (r : Option Record) (told : Option Reply) → submission_there r None ≡ unanswered (submission_there r told)
without (Some (records.Sub i k op n)) told = refl
without (Some (records.Ans i k reply n)) told = refl
without None told = refl

pub one_more : (rs : List Record) (es : List EventAt) (ps : List PartEvent) (i : ℕ) (d : PartEvent) (xs all : List EventAt) (x : EventAt) → i < length ps
    → map (event_in rs) xs ≡ map (part_event (map (event_in rs) es)) (take i ps) → all ≡ xs ++ x ∷ [] → event_in rs x ≡ part_event (map (event_in rs) es) (get_or ps i d)
    → map (event_in rs) all ≡ map (part_event (map (event_in rs) es)) (take (i + 1) ps)
one_more rs es ps i d xs all x within before e at =
    let f = part_event (map (event_in rs) es) in
    ap (λ (ys : List EventAt). map (event_in rs) ys) e ∙ map-append (event_in rs) xs (x ∷ [])
    ∙ ap (λ (ys : List EventView). ys ++ event_in rs x ∷ []) before
    ∙ ap (λ (y : EventView). map f (take i ps) ++ y ∷ []) at
    ∙ sym (ap (λ (ys : List PartEvent). map f ys) (take_more ps i d within) ∙ map-append f (take i ps) (get_or ps i d ∷ []))
