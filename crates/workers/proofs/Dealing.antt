-- How jobs are shared by threads.
use Rattle.std.proofs.Common.{◌≡◌, ◌≤◌, ◌<◌, ◌+◌, ◌-◌, ◌*◌, ◌∙◌, ℕ, suc, List, [], ◌∷◌, ◌++◌, length, map, sym, ap, subst, refl, append-nil, append_assoc, add-one, arith}
use Rattle.std.specs.Prelude.{max}
use Rattle.std.specs.List.{AllByRecursion as All, flat_map}
use Rattle.std.proofs.lemmas.List.{length-append}
use Rattle.std.proofs.lemmas.Grind.{flat_map-append}
use Rattle.std.proofs.Math.Nat.{suc-mul, mul-suc, mul-le-mul_right, mul_comm, lt_of_not-le}
use Rattle.fabric_steps.specs.declared.event.LaneName.TheVariants as lanes
use Rattle.workers.specs.declared.jobs.Job.{Job}
use Rattle.workers.specs.Jobs.{lane_jobs, port_jobs, middle_jobs, jobs_of, AreShares, AreSingle}

each_more : (xss : List (List Job)) (xs : List Job) → All (λ s. 0 < length s) xss → 0 < length xs → All (λ s. 0 < length s) (xss ++ xs ∷ [])
each_more [] xs h some = (some, tt)
each_more (ys ∷ yss) xs h some = (h.0, each_more yss xs h.1 some)

pub all_more : (xss : List (List Job)) (xs : List Job) → flat_map (λ s. s) (xss ++ xs ∷ []) ≡ flat_map (λ s. s) xss ++ xs
all_more xss xs = flat_map-append (λ s. s) xss (xs ∷ []) ∙ ap (λ ys. flat_map (λ s. s) xss ++ ys) (append-nil xs)

-- so many ports are dealt out; a share ends when it is filled, which each port does by a step more
pub record Dealt (groups step ports : ℕ) (shares : List (List Job)) (share : List Job) (filled : ℕ) : Type 0 where
  pub all : flat_map (λ s. s) shares ++ share ≡ port_jobs ports
  pub some : All (λ s. 0 < length s) shares
  pub count : length shares * groups + filled ≡ ports * step
  pub below : filled < groups

abbrev pub jobs_at : ℕ → List Job
jobs_at port = lane_jobs (lanes.Up port) ++ lane_jobs (lanes.Down port)

-- a port more, and the share goes on
pub dealt_more : (groups step ports : ℕ) (shares : List (List Job)) (share : List Job) (filled : ℕ) → Dealt groups step ports shares share filled → filled + step < groups
    → Dealt groups step (ports + 1) shares (share ++ jobs_at (ports + 1)) (filled + step)
dealt_more groups step ports shares share filled old less = subst (λ p. Dealt groups step p shares (share ++ jobs_at p) (filled + step)) (sym (add-one ports)) (record {
  all = sym (append_assoc (flat_map (λ s. s) shares) share (jobs_at (suc ports))) ∙ ap (λ js. js ++ jobs_at (suc ports)) old.all;
  some = old.some;
  count = omega (arith, suc-mul ports step, old.count);
  below = less;
})

-- a port more, and the share ends
pub dealt_share : (groups step ports : ℕ) (shares : List (List Job)) (share : List Job) (filled : ℕ) → Dealt groups step ports shares share filled → groups ≤ filled + step → step ≤ groups
    → Dealt groups step (ports + 1) (shares ++ (share ++ jobs_at (ports + 1)) ∷ []) [] (filled + step - groups)
dealt_share groups step ports shares share filled old full few = subst (λ p. Dealt groups step p (shares ++ (share ++ jobs_at p) ∷ []) [] (filled + step - groups)) (sym (add-one ports)) (record {
  all = append-nil (flat_map (λ s. s) (shares ++ (share ++ jobs_at (suc ports)) ∷ [])) ∙ all_more shares (share ++ jobs_at (suc ports))
      ∙ sym (append_assoc (flat_map (λ s. s) shares) share (jobs_at (suc ports))) ∙ ap (λ js. js ++ jobs_at (suc ports)) old.all;
  some = each_more shares (share ++ jobs_at (suc ports)) old.some (let l = length-append share (jobs_at (suc ports)) in omega arith);
  count =
      let l : length (shares ++ (share ++ jobs_at (suc ports)) ∷ []) ≡ suc (length shares) = length-append shares ((share ++ jobs_at (suc ports)) ∷ []) ∙ add-one (length shares) in
      ap (λ n. n * groups + (filled + step - groups)) l ∙ omega (arith, suc-mul (length shares) groups, suc-mul ports step, old.count);
  below = let b = old.below in omega arith;
})

-- fewer shares than steps to fill one
few_dealt : (groups step ports shares filled : ℕ) → shares * groups + filled ≡ ports * step → groups ≡ ports + 1 → 1 ≤ step → step ≤ shares → ⊥
few_dealt groups step ports shares filled count is some many =
    let more : step * groups ≤ shares * groups = mul-le-mul_right groups many in
    let whole : step * groups ≡ step * ports + step = ap (λ g. step * g) (is ∙ add-one ports) ∙ mul-suc step ports in
    absurd (omega (arith, more, whole, count, mul_comm step ports))

-- all ports, and what is of no port
pub dealt_all : (groups step ports threads : ℕ) (shares : List (List Job)) (share : List Job) (filled : ℕ) → Dealt groups step ports shares share filled → groups ≡ ports + 1 → 1 ≤ step → step ≤ max 1 threads
    → AreShares ports threads (shares ++ (share ++ middle_jobs) ∷ [])
dealt_all groups step ports threads shares share filled old is some few = record {
  all = all_more shares (share ++ middle_jobs) ∙ sym (append_assoc (flat_map (λ s. s) shares) share middle_jobs) ∙ ap (λ js. js ++ middle_jobs) old.all;
  some = each_more shares (share ++ middle_jobs) old.some (let l = length-append share middle_jobs in omega arith);
  few =
      let l = length-append shares ((share ++ middle_jobs) ∷ []) in
      let less : length shares < step = lt_of_not-le (few_dealt groups step ports (length shares) filled old.count is some) in
      omega arith;
}

single_all : (js : List Job) → flat_map (λ s. s) (map (λ j. j ∷ []) js) ≡ js
single_all [] = refl
single_all (j ∷ js) = ap (λ ks. j ∷ ks) (single_all js)

single_some : (js : List Job) → All (λ s. 0 < length s) (map (λ j. j ∷ []) js)
single_some [] = tt
single_some (j ∷ js) = ((omega arith), single_some js)

single_count : (js : List Job) → length (map (λ (j : Job). j ∷ []) js) ≡ length js
single_count [] = refl
single_count (j ∷ js) = ap suc (single_count js)

pub singles : (requesters threads : ℕ) (js : List Job) (shares : List (List Job)) → js ≡ jobs_of requesters → AreSingle js shares → length js ≤ threads → AreShares requesters threads shares
singles requesters threads js shares whole is enough = subst (AreShares requesters threads) (sym is) (record {
  all = single_all js ∙ whole;
  some = single_some js;
  few = let l = single_count js in omega arith;
})

pub dealt_as : (groups step ports : ℕ) (xs ys : List (List Job)) (s t : List Job) (m n : ℕ) → xs ≡ ys → s ≡ t → m ≡ n → Dealt groups step ports xs s m → Dealt groups step ports ys t n
dealt_as groups step ports xs ys s t m n a b e d =
    subst (λ l. Dealt groups step ports l t n) a (subst (λ l. Dealt groups step ports xs l n) b (subst (λ k. Dealt groups step ports xs s k) e d))
