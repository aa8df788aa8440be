-- Acts one after the other.
use Rattle.std.proofs.Common.{◌≡◌, ◌≢◌, ◌==◌, ℕ, Bool, true, false, List, [], ◌∷◌, ◌++◌, length, refl, sym, ap, ◌∙◌, subst, append_assoc, eq-eqb, ne_eqb}
use Rattle.std.proofs.lemmas.List.{append-nil}
use Rattle.history_words.specs.Records.{Record}
use Rattle.fabric_steps.specs.Fabric.{Fabric}
use Rattle.fabric_core.specs.Kept.{records_of}
use Rattle.fabric_core.specs.Answers.{Happens}
use Rattle.fabric_core.specs.Runs.{Runs}
use Rattle.hall_laws.specs.declared.token.Done.{Done}
use Rattle.hall_laws.specs.Story.{Act, Tells, if_by, done_by, events_in}

pub tells_runs : (f f' : Fabric) (acts : List Act) (rs : List Record) → Tells f acts rs f' → Runs f (events_in acts) rs f'
tells_runs f f' [] rs t = t
tells_runs f f' (a ∷ acts) rs (next, later, happens, others, are) = (a.done.what, next, later, happens, tells_runs next f' acts later others, are)

pub one_more : (f g f' : Fabric) (acts : List Act) (rs : List Record) (a : Act) → Tells f acts rs g → Happens g a.done.event a.done.what f'
    → Tells f (acts ++ a ∷ []) (rs ++ records_of a.done.event a.done.what (length g.memory.entries)) f'
one_more f g f' [] rs a (none, same) h =
    subst (λ (x : Fabric). Happens x a.done.event a.done.what f' → Tells f (a ∷ []) (rs ++ records_of a.done.event a.done.what (length x.memory.entries)) f') (sym same)
    (λ h. (f', [], h, (refl, refl), ap (λ (xs : List Record). xs ++ records_of a.done.event a.done.what (length f.memory.entries)) none ∙ sym (append-nil (records_of a.done.event a.done.what (length f.memory.entries))))) h
one_more f g f' (b ∷ acts) rs a (next, later, happens, others, are) h = (
  next,
  later ++ records_of a.done.event a.done.what (length g.memory.entries),
  happens,
  one_more next g f' acts later a others h,
  ap (λ (xs : List Record). xs ++ records_of a.done.event a.done.what (length g.memory.entries)) are
      ∙ append_assoc (records_of b.done.event b.done.what (length f.memory.entries)) later (records_of a.done.event a.done.what (length g.memory.entries)),
)

if_by_more : (x : Bool) (d e : Done) (ds : List Done) → if_by x d (ds ++ e ∷ []) ≡ if_by x d ds ++ e ∷ []
if_by_more true d e ds = refl
if_by_more false d e ds = refl

pub by_own : (acts : List Act) (n : ℕ) (d : Done) → done_by n (acts ++ record { by = n; done = d } ∷ []) ≡ done_by n acts ++ d ∷ []
by_own [] n d = ap (λ (x : Bool). if_by x d []) (eq-eqb n n refl)
by_own (b ∷ acts) n d = ap (if_by (b.by == n) b.done) (by_own acts n d) ∙ if_by_more (b.by == n) b.done d (done_by n acts)

pub by_other : (acts : List Act) (m n : ℕ) (d : Done) → n ≢ m → done_by m (acts ++ record { by = n; done = d } ∷ []) ≡ done_by m acts
by_other [] m n d ne = ap (λ (x : Bool). if_by x d []) (ne_eqb n m ne)
by_other (b ∷ acts) m n d ne = ap (if_by (b.by == m) b.done) (by_other acts m n d ne)
