-- Each step keeps the fabric sound.
use Rattle.std.proofs.Common.{ℕ, List, [], ◌∷◌, ◌++◌, set, refl, sym, ap, ◌∙◌, subst}
use mathlib.Core.Logic.{dite}
use native.Mathlib.Decide.{ℕ_discrete}
use Rattle.fabric_steps.specs.Whole.{Op, MarkedPacket, Whole, view, up_of, down_of, requester_of, marked_request, reply_after, Reply}
use Rattle.fabric_steps.specs.Sound.{Sound, SoundAt, IsRequestOf}
use Rattle.history_words.specs.Records.{Record}
use Rattle.fabric_steps.specs.Steps.{IsSubmit, IsForward, IsServe, IsReturn, IsCollect, Step, submits, forwards, serves, returns, collects, links, Run, stays, goes}
use Rattle.fabric_steps.proofs.Lists.{each_remove}
use Rattle.fabric_steps.proofs.Views.{view_up, view_up_other, view_down, view_down_other, view_submit, view_submit_other, view_collect, view_collect_other}
use Rattle.fabric_steps.proofs.Submit.{submit_keeps}
use Rattle.fabric_steps.proofs.Forward.{forward_keeps, forward_other, back_keeps, back_other}
use Rattle.fabric_steps.proofs.Serve.{serve_keeps}
use Rattle.fabric_steps.proofs.Collect.{collect_keeps}

pub submit_sound : (p : Whole) (i : ℕ) (op : Op) (p' : Whole) → Sound p → IsSubmit p i op p' → Sound p'
submit_sound p i op p' s e = subst Sound (sym e.now) (λ j. dite (ℕ_discrete j i)
    (λ is. subst (λ (k : ℕ). SoundAt k (view (record p { up = set p.up i u; requesters = set p.requesters i e.requester }) k)) (sym is)
    (subst (SoundAt i) (sym (view_submit p i u e.requester e.has_up e.known)) (submit_keeps i e.tag op (view p i) e.requester (s i) e.opened)))
    (λ ne. subst (SoundAt j) (sym (view_submit_other p i j u e.requester ne)) (s j)))
  where
    u : List MarkedPacket
    u = up_of p i ++ marked_request i e.tag (requester_of p i).next op ∷ []

pub forward_sound : (p : Whole) (i : ℕ) (p' : Whole) → Sound p → IsForward p i p' → Sound p'
forward_sound p i p' s e = subst Sound (sym e.now) (λ j. dite (ℕ_discrete j i)
    (λ is. subst (λ (k : ℕ). SoundAt k (view (record p { up = set p.up i e.rest; inward = p.inward ++ e.item ∷ [] }) k)) (sym is)
    (subst (SoundAt i) (sym (view_up p (p.inward ++ e.item ∷ []) i i e.rest refl e.has_up ∙ ap (λ (u : List MarkedPacket). record (view p i) { up = u; inward = p.inward ++ e.item ∷ [] }) e.taken.now))
    (forward_keeps i p.extent p.history p.inward p.outward (down_of p i) e.taken.before e.taken.behind (requester_of p i) e.item was e.taken.passes)))
    (λ ne. subst (SoundAt j) (sym (view_up_other p (p.inward ++ e.item ∷ []) i j e.rest ne))
    (forward_other j (view p j) e.item (λ h. ne (sym h ∙ own.0)) (s j) own.1)))
  where
    was : SoundAt i (record (view p i) { up = e.taken.before ++ e.item ∷ e.taken.behind })
    was = subst (λ (u : List MarkedPacket). SoundAt i (record (view p i) { up = u })) e.taken.was (s i)

    own : IsRequestOf i e.item
    own = (each_remove (IsRequestOf i) e.taken.before e.taken.behind e.item was.own_requests).0

pub serve_sound : (p p' : Whole) → Sound p → IsServe p p' → Sound p'
serve_sound p p' s e = subst Sound (sym e.now) (λ j.
    subst (λ (w : List MarkedPacket). SoundAt j (view (record p { history = p.history ++ Rattle.fabric_steps.specs.Whole.entry_of e.item ∷ []; inward = w; outward = p.outward ++ Rattle.fabric_steps.specs.Whole.completions_for e.item (reply_after p.extent p.history e.item.op) }) j)) (sym e.taken.now)
    (serve_keeps j p.extent p.history p.outward (up_of p j) (down_of p j) e.taken.before e.taken.behind (requester_of p j) e.item
    (subst (λ (w : List MarkedPacket). SoundAt j (record (view p j) { inward = w })) e.taken.was (s j)) e.sized e.taken.passes))

pub return_sound : (p p' : Whole) → Sound p → IsReturn p p' → Sound p'
return_sound p p' s e = subst Sound (sym e.now) (λ j. dite (ℕ_discrete j i)
    (λ is. subst (λ (k : ℕ). SoundAt k (view (record p { outward = e.rest; down = set p.down i d }) k)) (sym is)
    (subst (SoundAt i) (sym (view_down p e.rest i d e.has_down ∙ ap (λ (o : List MarkedPacket). record (view p i) { outward = o; down = d }) e.taken.now))
    (back_keeps i p.extent p.history p.inward (up_of p i) (down_of p i) e.taken.before e.taken.behind (requester_of p i) e.item (was i) refl)))
    (λ ne. subst (SoundAt j) (sym (view_down_other p e.rest i j d ne ∙ ap (λ (o : List MarkedPacket). record (view p j) { outward = o }) e.taken.now))
    (back_other j p.extent p.history p.inward (up_of p j) (down_of p j) e.taken.before e.taken.behind (requester_of p j) e.item (was j) (λ h. ne (sym h)))))
  where
    i : ℕ
    i = e.item.requester

    d : List MarkedPacket
    d = down_of p i ++ e.item ∷ []

    was : (j : ℕ) → SoundAt j (record (view p j) { outward = e.taken.before ++ e.item ∷ e.taken.behind })
    was j = subst (λ (o : List MarkedPacket). SoundAt j (record (view p j) { outward = o })) e.taken.was (s j)

pub collect_sound : (p : Whole) (i number : ℕ) (reply : Reply) (p' : Whole) → Sound p → IsCollect p i number reply p' → Sound p'
collect_sound p i number reply p' s e = subst Sound (sym e.now) (λ j. dite (ℕ_discrete j i)
    (λ is. subst (λ (k : ℕ). SoundAt k (view (record p { down = set p.down i e.rest; requesters = set p.requesters i e.requester }) k)) (sym is)
    (subst (SoundAt i) (sym (view_collect p i e.rest e.requester e.has_down e.known))
    (collect_keeps i p.extent p.history p.inward p.outward (up_of p i) e.rest (requester_of p i) e.requester e.item number
    (subst (λ (d : List MarkedPacket). SoundAt i (record (view p i) { down = d })) e.first (s i)) e.closed)))
    (λ ne. subst (SoundAt j) (sym (view_collect_other p i j e.rest e.requester ne)) (s j)))

pub keeps : (p p' : Whole) (rs : List Record) → Sound p → Step p p' rs → Sound p'
keeps p p' rs s (submits i op e said) = submit_sound p i op p' s e
keeps p p' rs s (forwards i e said) = forward_sound p i p' s e
keeps p p' rs s (serves e said) = serve_sound p p' s e
keeps p p' rs s (returns e said) = return_sound p p' s e
keeps p p' rs s (collects i number reply e said) = collect_sound p i number reply p' s e
keeps p p' rs s (links e said) = subst Sound (sym e) s

pub run_keeps : {p p' : Whole} {rs : List Record} → Sound p → Run p p' rs → Sound p'
run_keeps s stays = s
run_keeps {p} s (goes {q} {r} {rs} {ss} a b) = keeps q r ss (run_keeps s a) b
