-- A prefix of an explainable log is explainable.
use Rattle.std.proofs.Common.{◌≡◌, ◌∙◌, ℕ, zero, suc, ◌<◌, ◌≤◌, List, Option, Some, take, length, sym, ap, subst, arith, inl, inr}
use Rattle.std.specs.Prelude.{slice_get, option_map}
use Rattle.std.proofs.lemmas.Bool.{cases_lt, cases_eq}
use Rattle.std.proofs.lemmas.List.{length-take-le}
use Rattle.std.proofs.lemmas.Option.{slice_get_within, same_Some}
use Rattle.tlp_core.specs.Ops.{Op}
use Rattle.seq_memory.specs.Entries.{Entry}
use Rattle.seq_memory.specs.Entries.{Reply}
use Rattle.seq_memory.specs.Limits.{Extent}
use Rattle.seq_memory.specs.Step.{answer}
use Rattle.seq_memory.specs.History.{contents, contents_at, reply_at}
use Rattle.history_words.specs.Records.{Record}
use Rattle.history_words.specs.declared.record.RecordOf.TheVariants as records
use Rattle.history_words.specs.TraceView.{TraceView, observed}
use Rattle.history_words.specs.Claim.{claim_of}
use Rattle.history_words.specs.Flaws.{moment}
use Rattle.history_words.specs.Trace.{submissions, stands, Explains, IsNumbered, IsLegal, IsExplained}
use Rattle.history_words.specs.Clocks.{IsClocked}
use Rattle.log_runs.specs.Explainable.{IsExplainable, prefix}
use Rattle.log_runs.proofs.Lists.{some_at, from_take, to_take, take_of_take}
use Rattle.log_runs.proofs.Alike.{same_prefix}
use Rattle.log_runs.proofs.Numbers.{listed, located}

reply_before : (y : Extent) (h : List Entry) (m p : ℕ) (e : Entry) → p < m → slice_get h p ≡ Some e → reply_at y (take m h) p ≡ reply_at y h p
reply_before y h m p e l at =
    ap (λ (o : Option Entry). option_map (λ (f : Entry). answer y.base y.block (contents_at y (take m h) p) f.op) o) (to_take h m p e l at)
    ∙ ap (λ (g : List Entry). option_map (λ (f : Entry). answer y.base y.block (contents y g) f.op) (Some e)) (take_of_take h p m (omega arith))
    ∙ ap (λ (o : Option Entry). option_map (λ (f : Entry). answer y.base y.block (contents_at y h p) f.op) o) (sym at)

module _ (u : TraceView) (h : List Entry) (x : Explains (claim_of u h)) (c : IsClocked (claim_of u h)) (n : ℕ) where
  -- how much of the history is kept
  record Cut (m : ℕ) : Type 0 where
    most : m ≤ length h
    above : (a : ℕ) (r : Record) → a < n → slice_get u.records a ≡ Some r → moment r ≤ m
    within : (p b l : ℕ) (e : Entry) (op : Op) → p < m → slice_get h p ≡ Some e → slice_get u.records b ≡ Some (records.Sub e.requester e.number op l) → b < n

  module _ (m : ℕ) (cut : Cut m) where
    numbered : IsNumbered (take n u.records)
    numbered a i k l op at =
        let (there, before) = from_take u.records n a (records.Sub i k op l) at in
        x.numbered a i k l op there ∙ ap (λ (rs : List Record). length (submissions rs i)) (sym (take_of_take u.records a n (omega arith)))

    same_front : (p : ℕ) → p < m → take p (take m h) ≡ take p h
    same_front p l = take_of_take h p m (omega arith)

    legal : IsLegal (submissions (take n u.records)) (take m h)
    legal p e at =
        let (there, before) = from_take h m p e at in
        let f = x.legal p e there in
        let (b, l, sub) = located u.records x.numbered e.requester e.number e.op f.submitted in
        let here = to_take u.records n b (records.Sub e.requester e.number e.op l) (cut.within p b l e e.op before there sub) sub in
        record {
          submitted = listed (take n u.records) numbered b e.requester e.number l e.op here;
          once = ap (λ (g : List Entry). stands g e.requester e.number) (same_front p before) ∙ f.once;
          ordered = λ j op less listed_there posted.
              let (d, q, found) = located (take n u.records) numbered e.requester j op listed_there in
              let (whole, inside) = from_take u.records n d (records.Sub e.requester j op q) found in
              ap (λ (g : List Entry). stands g e.requester j) (same_front p before)
              ∙ f.ordered j op less (listed u.records x.numbered d e.requester j q op whole) posted;
        }

    explained : (a i k l : ℕ) (reply : Reply) → slice_get (take n u.records) a ≡ Some (records.Ans i k reply l)
        → IsExplained (record { base = u.base; size = u.size; block = u.block; entries = take m h }) (take a (take n u.records)) i k reply l
    explained a i k l reply at =
        let (there, before) = from_take u.records n a (records.Ans i k reply l) at in
        let f = x.linear a i k l reply there in
        let least = cut.above a (records.Ans i k reply l) before there in
        let early : f.point < m = omega (arith, f.before_answer) in
        subst (λ (rs : List Record). IsExplained (record { base = u.base; size = u.size; block = u.block; entries = take m h }) rs i k reply l) (sym (take_of_take u.records a n (omega arith)))
        (record {
          place = f.place;
          op = f.op;
          since = f.since;
          point = f.point;
          asked = f.asked;
          not_posted = f.not_posted;
          unanswered = f.unanswered;
          acted = to_take h m f.point (record { requester = i; number = k; op = f.op }) early f.acted;
          after_submission = f.after_submission;
          before_answer = f.before_answer;
          replied = reply_before (observed u) h m f.point (record { requester = i; number = k; op = f.op }) early f.acted ∙ f.replied;
          above = λ d j q r less ans. ap (λ (g : List Entry). stands g i j) (same_front f.point early) ∙ f.above d j q r less ans;
        })

    explains : Explains (claim_of (prefix n u) (take m h))
    explains = record { numbered = numbered; legal = legal; linear = explained }

    clocked : IsClocked (claim_of (prefix n u) (take m h))
    clocked = record {
      rises = λ a b r s l at there. c.rises a b r s l (from_take u.records n a r at).0 (from_take u.records n b s there).0;
      bounded = λ a r at.
          let (there, before) = from_take u.records n a r at in
          subst (λ k. moment r ≤ k) (sym (length-take-le m h cut.most)) (cut.above a r before there);
      after_submission = λ p b l e op at sub. c.after_submission p b l e op (from_take h m p e at).0 (from_take u.records n b (records.Sub e.requester e.number op l) sub).0;
    }

cut_of : (u : TraceView) (h : List Entry) (c : IsClocked (claim_of u h)) (x : Explains (claim_of u h)) (n : ℕ) → (m : ℕ) × Cut u h x c n m
cut_of u h c x zero = (0, record { most = omega arith; above = λ a r l at. absurd (omega arith); within = λ p b l e op less at sub. absurd (omega arith) })
cut_of u h c x (suc last) = elim (cases_lt last (length u.records)) [
  | inl inside ↦
      let (r, at) = some_at u.records last inside in (
        moment r,
        record {
          most = c.bounded last r at;
          above = λ a s l there. elim (cases_eq a last) [
            | inl same ↦
                let eq : Some s ≡ Some r = sym there ∙ ap (slice_get u.records) same ∙ at in
                let is : moment s ≡ moment r = ap moment (same_Some s r eq) in
                omega arith
            | inr other ↦ c.rises a last s r (omega arith) there at
          ];
          within = λ p b l e op less there sub. elim (cases_lt b (suc last)) [
            | inl low ↦ low
            | inr high ↦
                let one : moment r ≤ l = c.rises last b r (records.Sub e.requester e.number op l) (omega arith) at sub in
                absurd (omega (arith, c.after_submission p b l e op there sub))
          ];
        },
      )
  | inr all ↦ (
    length h,
    record {
      most = omega arith;
      above = λ a s l there. c.bounded a s there;
      within = λ p b l e op less there sub. omega (arith, slice_get_within u.records b (records.Sub e.requester e.number op l) sub);
    },
  )
]

pub prefix_explainable : (t : TraceView) (n : ℕ) → IsExplainable t → IsExplainable (prefix n t)
prefix_explainable t n (u, h, alike, x, c) =
    let (m, cut) = cut_of u h c x n in (
      prefix n u,
      take m h,
      record { base = alike.base; size = alike.size; block = alike.block; records = same_prefix n t.records u.records alike.records },
      explains u h x c n m cut,
      clocked u h x c n m cut,
    )
