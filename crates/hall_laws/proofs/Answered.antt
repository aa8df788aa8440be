-- What submissions, collections and meetings tell, by the view that holds their parts.
use Rattle.std.proofs.Common.{◌≡◌, ℕ, suc, ◌+◌, ◌<◌, List, [], ◌∷◌, ◌++◌, length, refl, sym, ap, ◌∙◌, subst, Some}
use Rattle.std.specs.Prelude.{slice_get}
use mathlib.Core.Option.{some-injective}
use Rattle.tlp_core.specs.Ops.{Op}
use Rattle.seq_memory.specs.Entries.{Entry}
use Rattle.seq_memory.specs.Entries.{Reply}
use Rattle.seq_memory.specs.History.{MemoryView, extent_of, reply_at}
use Rattle.seq_memory.specs.Limits.{Extent}
use Rattle.requester_core.specs.Answers.{Answer}
use Rattle.history_words.specs.declared.record.RecordOf.TheVariants.{Sub, Ans}
use Rattle.history_words.specs.Trace.{stands}
use Rattle.fabric_steps.specs.Fabric.{Fabric, whole_of}
use Rattle.fabric_steps.specs.Trace.{Belongs}
use Rattle.fabric_core.specs.declared.config.Config.{Config}
use Rattle.fabric_steps.specs.Event.{Event, Seen}
use Rattle.fabric_steps.specs.declared.event.EventOf.TheVariants as events
use Rattle.fabric_steps.specs.declared.event.SeenOf.TheVariants as seen
use Rattle.fabric_core.specs.Answers.{Happens}
use Rattle.hall_laws.specs.declared.part.PartValue.{PartValue}
use Rattle.hall_laws.specs.declared.part.PartValue.TheVariants.{Memory}
use Rattle.hall_laws.specs.declared.token.Token.{Token}
use Rattle.hall_laws.specs.declared.token.Knowledge.{Knowledge}
use Rattle.hall_laws.specs.Rule.{Traced, IsSoundTraced, Fits, Begins, Known, Agrees, Goes, learned_also, HasConfig, extent_for}
use Rattle.hall_laws.specs.Shows.{Shows}
use Rattle.hall_laws.specs.Tells.{Has, IsLegalFor, AnsweredStand, SubmitTells, CollectTells, SeesTells, Met}
use Rattle.hall_laws.proofs.Learning.{submit_memory, collect_memory}
use Rattle.hall_laws.proofs.Events.{Laws, stays_sound, seat_of, seen_fits, learns_all}
use Rattle.hall_laws.proofs.Told.{ExplainsLaw, new_request, explained, legal_for, answered_stand}
use Rattle.hall_laws.proofs.Waits.{waits}

-- the memory was taken first, and then two other parts
memory_held : (s : Traced) (u r : ℕ) (x y : PartValue) (m : MemoryView) (t : Token) → t.held ≡ (u, x) ∷ ((r, y) ∷ ((0, Memory m) ∷ [])) → Agrees s t.held → s.fabric.memory ≡ m
memory_held s u r x y m t held a =
    let b : Agrees s ((u, x) ∷ ((r, y) ∷ ((0, Memory m) ∷ []))) = subst (Agrees s) held a in
    let same : Memory s.fabric.memory ≡ Memory m = some-injective (Memory s.fabric.memory) (Memory m) b.1.1.0 in cc

pub submit_tells : (laws : Laws) (t t' : Token) (ts : List Token) (u r k : ℕ) (x y v : PartValue) (m : MemoryView) (op : Op) → Known (t ∷ ts) → t.held ≡ (u, x) ∷ ((r, y) ∷ ((0, Memory m) ∷ [])) → Goes (events.Submit (suc t.knows.number) op) (seen.Submitted k) t r v t'
    → SubmitTells t.knows k op (length m.entries) (learned_also (events.Submit (suc t.knows.number) op) (seen.Submitted k) m.entries t.knows)
submit_tells laws t t' ts u r k x y v m op known held g =
    let s : Traced = known.0 in let sound : IsSoundTraced s = known.1 in let a = known.2.0.0 in let f = known.2.0.1 in
    let i : ℕ = suc t.knows.number in
    let is_m : s.fabric.memory ≡ m = memory_held s u r x y m t held a in
    let go = g.step s sound a f in
    let after : Fabric = go.after in
    let happens : Happens s.fabric (events.Submit i op) (seen.Submitted k) after = go.happens in
    let same : after.memory ≡ s.fabric.memory = submit_memory s.fabric i op (seen.Submitted k) after happens in
    let b : Belongs (whole_of after) (s.records ++ Sub i k op (length s.fabric.memory.entries) ∷ []) = (stays_sound laws s t.knows.number after (events.Submit i op) (seen.Submitted k) (seat_of s t.knows f) sound happens).belongs in
    let b' : Belongs (whole_of after) (s.records ++ Sub i k op (length after.memory.entries) ∷ []) = subst (λ (z : MemoryView). Belongs (whole_of after) (s.records ++ Sub i k op (length z.entries) ∷ [])) (sym same) b in
    let new = new_request (whole_of after) s.records i k op b' in
    record {
      whole = learns_all laws s (events.Submit i op) (seen.Submitted k) t after m.entries sound f g.own happens (ap (λ (z : MemoryView). z.entries) (same ∙ is_m)) (ap (λ (z : MemoryView). z.entries) is_m);
      begins = subst (λ (z : MemoryView). Begins t.knows.seen z.entries) is_m f.seen;
      is_length = refl;
      number = new.0 ∙ ap length (sym f.made);
      new = subst (λ (z : MemoryView). stands z.entries i k ≡ Rattle.std.proofs.Common.false) (same ∙ is_m) new.1;
      knows = refl;
    }

pub collect_tells : (laws : Laws) (explains : ExplainsLaw) (t t' : Token) (ts : List Token) (u r : ℕ) (x y v : PartValue) (m : MemoryView) (answer : Answer) → Known (t ∷ ts) → t.held ≡ (u, x) ∷ ((r, y) ∷ ((0, Memory m) ∷ []))
    → Goes (events.Collect (suc t.knows.number)) (seen.Collected answer) t r v t'
    → CollectTells t.knows answer.number answer.reply (length m.entries) (learned_also (events.Collect (suc t.knows.number)) (seen.Collected answer) m.entries t.knows)
collect_tells laws explains t t' ts u r x y v m answer known held g =
    let s : Traced = known.0 in let sound : IsSoundTraced s = known.1 in let a = known.2.0.0 in let f = known.2.0.1 in
    let i : ℕ = suc t.knows.number in
    let k : ℕ = answer.number in
    let is_m : s.fabric.memory ≡ m = memory_held s u r x y m t held a in
    let go = g.step s sound a f in
    let after : Fabric = go.after in
    let happens : Happens s.fabric (events.Collect i) (seen.Collected answer) after = go.happens in
    let same : after.memory ≡ s.fabric.memory = collect_memory s.fabric i (seen.Collected answer) after happens in
    let b : Belongs (whole_of after) (s.records ++ Ans i k answer.reply (length s.fabric.memory.entries) ∷ []) = (stays_sound laws s t.knows.number after (events.Collect i) (seen.Collected answer) (seat_of s t.knows f) sound happens).belongs in
    let b' : Belongs (whole_of after) (s.records ++ Ans i k answer.reply (length after.memory.entries) ∷ []) = subst (λ (z : MemoryView). Belongs (whole_of after) (s.records ++ Ans i k answer.reply (length z.entries) ∷ [])) (sym same) b in
    let e = explained (whole_of after) s.records i k answer.reply b' in
    let legal : IsLegalFor i t.knows.made m.entries = subst (λ (z : MemoryView). IsLegalFor i t.knows.made z.entries) is_m (subst (λ (l : List Op). IsLegalFor i l s.fabric.memory.entries) (sym f.made) (legal_for explains s i sound)) in
    let there : slice_get m.entries e.point ≡ Some (record { requester = i; number = k; op = e.op }) = ap (λ (z : MemoryView). slice_get z.entries e.point) (sym (same ∙ is_m)) ∙ e.acted in
    record {
      whole = learns_all laws s (events.Collect i) (seen.Collected answer) t after m.entries sound f g.own happens (ap (λ (z : MemoryView). z.entries) (same ∙ is_m)) (ap (λ (z : MemoryView). z.entries) is_m);
      begins = subst (λ (z : MemoryView). Begins t.knows.seen z.entries) is_m f.seen;
      is_length = refl;
      since = e.since;
      waited = subst (Has (k, e.since)) (sym f.pending) (waits i k e.since e.place e.op s.records e.asked e.not_posted e.unanswered);
      knows = refl;
      point = e.point;
      op = e.op;
      after_submission = e.after_submission;
      before_answer = subst (λ (z : MemoryView). e.point < length z.entries) (same ∙ is_m) e.before_answer;
      acted = there;
      submitted = (legal e.point (record { requester = i; number = k; op = e.op }) there refl).submitted;
      replied = reply_there s after same is_m f.config e.point answer.reply e.replied;
      legal = legal;
    }
  where
    same_extent : (f : Fabric) (c : Config) → HasConfig f c → extent_for c ≡ extent_of f.memory
    same_extent f c h =
        ap {B = Extent} (λ (n : ℕ). record { base = n; size = c.size; block = c.block }) (sym h.base) ∙
        (ap {B = Extent} (λ (n : ℕ). record { base = f.memory.base; size = n; block = c.block }) (sym h.size) ∙
        ap {B = Extent} (λ (n : ℕ). record { base = f.memory.base; size = f.memory.size; block = n }) (sym h.block))

    reply_there : (s : Traced) (after : Fabric) → after.memory ≡ s.fabric.memory → s.fabric.memory ≡ m → HasConfig s.fabric t.knows.config → (point : ℕ) (reply : Reply)
        → reply_at (extent_of after.memory) after.memory.entries point ≡ Some reply → reply_at (extent_for t.knows.config) m.entries point ≡ Some reply
    reply_there s after same is_m c point reply e =
        ap (λ (x : Extent). reply_at x m.entries point) (same_extent s.fabric t.knows.config c) ∙
        (ap (λ (l : List Entry). reply_at (extent_of s.fabric.memory) l point) (ap (λ (z : MemoryView). z.entries) (sym is_m)) ∙
        (ap (λ (z : MemoryView). reply_at (extent_of z) z.entries point) (sym same) ∙ e))

-- the view that holds the memory alone: each of its tokens may have seen all of the history
pub sees_tells : (t : Token) (ts : List Token) (m : MemoryView) → Known (t ∷ ts) → t.held ≡ (0, Memory m) ∷ [] → SeesTells t.knows (record t.knows { seen = m.entries })
sees_tells t ts m known held =
    let s : Traced = known.0 in
    let b : Agrees known.0 ((0, Memory m) ∷ []) = subst (Agrees known.0) held known.2.0.0 in
    let same : Memory known.0.fabric.memory ≡ Memory m = some-injective (Memory known.0.fabric.memory) (Memory m) b.0 in
    let is_m : known.0.fabric.memory ≡ m = cc in
    let whole : s.fabric.memory.entries ≡ m.entries = ap (λ (z : MemoryView). z.entries) is_m in
    record {
      whole = (s, known.1, subst (λ (l : List Entry). Fits s (record t.knows { seen = l })) whole (seen_fits s t.knows known.2.0.1), whole);
      begins = subst (λ (z : MemoryView). Begins t.knows.seen z.entries) is_m known.2.0.1.seen;
      knows = refl;
    }

-- two tokens of which the first holds the memory
pub both_met : (explains : ExplainsLaw) (t u : Token) (m : MemoryView) → Known (t ∷ (u ∷ [])) → t.held ≡ (0, Memory m) ∷ [] → Met t.knows m.entries (record t.knows { seen = m.entries }) × Met u.knows m.entries (record u.knows { seen = m.entries })
both_met explains t u m known held =
    let s : Traced = known.0 in
    let b : Agrees s ((0, Memory m) ∷ []) = subst (Agrees s) held known.2.0.0 in
    let same : Memory s.fabric.memory ≡ Memory m = some-injective (Memory s.fabric.memory) (Memory m) b.0 in
    let is_m : s.fabric.memory ≡ m = cc in
    (met s t.knows known.1 known.2.0.1 is_m, met s u.knows known.1 known.2.1.0.1 is_m)
  where
    met : (s : Traced) (w : Knowledge) → IsSoundTraced s → Fits s w → s.fabric.memory ≡ m → Met w m.entries (record w { seen = m.entries })
    met s w sound f is_m = record {
      begins = subst (λ (z : MemoryView). Begins w.seen z.entries) is_m f.seen;
      knows = refl;
      answered = subst (λ (z : MemoryView). AnsweredStand w z.entries) is_m (answered_stand s w sound f);
      legal = subst (λ (z : MemoryView). IsLegalFor (suc w.number) w.made z.entries) is_m (subst (λ (l : List Op). IsLegalFor (suc w.number) l s.fabric.memory.entries) (sym f.made) (legal_for explains s (suc w.number) sound));
    }

pub event_shows : (event : Event) (what : Seen) (t t' : Token) (ts : List Token) (k : ℕ) (v : PartValue) → Known (t ∷ ts) → Goes event what t k v t' → Shows t.knows event what
event_shows event what t t' ts k v known g = let go = g.step known.0 known.1 known.2.0.0 known.2.0.1 in (known.0, known.1, known.2.0.1, go.after, go.happens)
