use Rattle.std.proofs.Common.{◌≡◌, ◌+◌, ◌∙◌, List, Vec, Global, ◌++◌, ◌∷◌, [], map, ap, sym, subst, rules}
use Rattle.std.proofs.lemmas.List.{map-append}
use Rattle.workers.specs.declared.jobs.Job.{Job}
use Rattle.workers.specs.Jobs.{middle_jobs, AreShares}
use Rattle.workers.proofs.Dealing.{Dealt, jobs_at, dealt_as, dealt_more, dealt_share, dealt_all}
use Rattle.workers.proofs.shares.port_shares.Goals.{then-filled-groups+in_ok-push, else-filled-groups}
use Rattle.workers.proofs.shares.port_shares.Goals as goal

abbrev jobs_in : Vec Job Global → List Job
jobs_in v = v.items

pub loop-i-preserved : goal.loop-i-preserved
loop-i-preserved c =
    let was = c.loop-i.invariant in
    let i = c.loop-i.i in
    let groups = c.from-groups.result + 1 in
    let step = c.clamp-step.result in
    let shares = map jobs_in c.loop-i.shares.items in
    let share = c.loop-i.share.items in
    let pushed : c.push_port.new.jobs.items ≡ share ++ jobs_at (i + 1) = search rules in (
      elim c.if-filled-groups.branch [
        | then-filled-groups+in_ok-push w ↦
            let ended : map jobs_in w.push.new.self.items ≡ shares ++ (share ++ jobs_at (i + 1)) ∷ [] =
            ap (map jobs_in) w.in_ok-push.ensures.items ∙ map-append jobs_in c.loop-i.shares.items (c.push_port.new.jobs ∷ []) ∙ ap (λ js. shares ++ js ∷ []) pushed in
            dealt_as groups step (i + 1) _ _ _ _ _ _ (sym (ap (λ v. map jobs_in v.items) w.shares-is ∙ ended)) (search rules) (search rules)
            (dealt_share groups step i shares share c.loop-i.filled was.0 (search rules) was.3)
        | else-filled-groups w ↦
            dealt_as groups step (i + 1) _ _ _ _ _ _ (sym (ap (λ v. map jobs_in v.items) w.shares-is)) (sym (ap jobs_in w.share-is ∙ pushed)) (search rules)
            (dealt_more groups step i shares share c.loop-i.filled was.0 (search rules))
      ],
      was.1,
      was.2,
      was.3,
      was.4,
    )

pub returns : goal.returns
returns c =
    let was = c.loop-i.invariant in
    let shares = map jobs_in c.loop-i.shares.items in
    let share = c.loop-i.share.items in
    let pushed : c.push_middle.new.jobs.items ≡ share ++ middle_jobs = search rules in
    let ended : map jobs_in c.push-2.new.self.items ≡ shares ++ (share ++ middle_jobs) ∷ [] =
    ap (map jobs_in) c.in_ok-push-2.ensures.items ∙ map-append jobs_in c.loop-i.shares.items (c.push_middle.new.jobs ∷ []) ∙ ap (λ js. shares ++ js ∷ []) pushed in
    let all : c.loop-i.i ≡ c.args.requesters = search rules in
    subst (AreShares c.args.requesters c.args.threads) (sym ended)
    (dealt_all (c.from-groups.result + 1) c.clamp-step.result c.args.requesters c.args.threads shares share c.loop-i.filled
    (subst (λ p. Dealt (c.from-groups.result + 1) c.clamp-step.result p shares share c.loop-i.filled) all was.0) was.1 was.2 was.4)
