-- Over any list of calls.
use Rattle.std.proofs.Common.{◌≡◌, ◌∙◌, ℕ, ◌<◌, Some, true, List, [], ◌∷◌, ◌++◌, append_assoc, refl, sym, ap, subst}
use Rattle.std.specs.Prelude.{slice_get}
use Rattle.std.proofs.lemmas.Grind.{flat_map-append}
use Rattle.std.proofs.lemmas.List.{append-nil, append_cancel_left}
use Rattle.std.proofs.lemmas.List.Sums.{fold-append}
use Rattle.tlp_core.specs.Ops.{Op}
use Rattle.seq_memory.specs.Entries.{Entry}
use Rattle.seq_memory.specs.Entries.{Reply}
use Rattle.seq_memory.specs.History.{extent_of}
use Rattle.history_words.specs.declared.record.RecordOf.TheVariants.{Sub, Ans}
use Rattle.history_words.specs.Clocks.{IsClocked}
use Rattle.history_words.specs.Trace.{Explains}
use Rattle.config_core.specs.SetupView.{SetupView, is_size}
use Rattle.endpoint_core.specs.Classes.{becomes, carries_poison}
use Rattle.endpoint_core.specs.EndpointView.{EndpointView}
use Rattle.endpoint_core.specs.Steps.{new_endpoint, acted, taken_as}
use Rattle.endpoint_core.specs.Runs.{Call, Take, Act, Reset, after_call, after_calls, all_of, all_coming, all_leaving, blocks_coming, blocks_leaving, blocks_waiting}
use Rattle.endpoint_log.specs.LogView.{LogView}
use Rattle.endpoint_log.specs.Steps.{new_log, no_claim}
use Rattle.endpoint_laws.specs.Requests.{IsBlockRequest, IsDataReply}
use Rattle.endpoint_laws.specs.Runs.{logged, log_after, claim_after, submitted_after, AreBytes}
use Rattle.endpoint_laws.proofs.State.{State}
use Rattle.endpoint_laws.proofs.Registers.{Stays, reset_sized}
use Rattle.endpoint_laws.proofs.Coming.{Spelled, becomes_asked}
use Rattle.endpoint_laws.proofs.Logging.{Laws, memory}
use Rattle.endpoint_laws.proofs.Told.{Carries, IsTold, poison_told, took_told, acts_told, resets_told}
use Rattle.endpoint_laws.proofs.Facts.{submitted_fact, answered_fact, entered_fact}
use Rattle.endpoint_laws.proofs.Traced.{IsTraced, Moves, poison_traced, took, acts, resets}

-- each block request that came leaves the queue once, or waits
abbrev pub Leaves : Type 0
Leaves = (s : SetupView) (cs : List Call) → all_coming cs ≡ all_leaving (new_endpoint s) cs ++ blocks_waiting (after_calls (new_endpoint s) cs)

one_more : (e : EndpointView) (cs : List Call) (c : Call) → after_calls e (cs ++ c ∷ []) ≡ after_call (after_calls e cs) c
one_more e cs c = fold-append after_call e cs (c ∷ [])

leaving_more : (e : EndpointView) (cs : List Call) (c : Call) → all_leaving e (cs ++ c ∷ []) ≡ all_leaving e cs ++ blocks_leaving (after_calls e cs) c
unfolding all_of
leaving_more e [] c = append-nil (blocks_leaving e c)
leaving_more e (d ∷ cs) c =
    ap (λ (xs : List Op). blocks_leaving e d ++ xs) (leaving_more (after_call e d) cs c)
    ∙ sym (append_assoc (blocks_leaving e d) (all_leaving (after_call e d) cs) (blocks_leaving (after_calls (after_call e d) cs) c))

moves : Leaves → (s : SetupView) (cs : List Call) → Moves (after_calls (new_endpoint s) cs)
moves leaves s cs =
    let e = after_calls (new_endpoint s) cs in
    let gone = all_leaving (new_endpoint s) cs in
    let more : all_coming (cs ++ Act ∷ []) ≡ all_coming cs = flat_map-append blocks_coming cs (Act ∷ []) ∙ append-nil (all_coming cs) in
    let then : all_leaving (new_endpoint s) (cs ++ Act ∷ []) ++ blocks_waiting (after_calls (new_endpoint s) (cs ++ Act ∷ [])) ≡ gone ++ (blocks_leaving e Act ++ blocks_waiting (acted e)) =
    ap (λ (xs : List Op). xs ++ blocks_waiting (after_calls (new_endpoint s) (cs ++ Act ∷ []))) (leaving_more (new_endpoint s) cs Act)
    ∙ (ap (λ (x : EndpointView). (gone ++ blocks_leaving e Act) ++ blocks_waiting x) (one_more (new_endpoint s) cs Act)
    ∙ append_assoc gone (blocks_leaving e Act) (blocks_waiting (acted e))) in
    append_cancel_left gone (blocks_waiting e) (blocks_leaving e Act ++ blocks_waiting (acted e)) (sym (leaves s cs) ∙ (sym more ∙ (leaves s (cs ++ Act ∷ []) ∙ then)))

-- ---- a new device

no_state : (s : SetupView) → State (no_claim s) 0
no_state s = record {
  kept = record {
    explains = record {
      numbered = λ a i k n op e. absurd (cc);
      legal = λ p e at. absurd (cc);
      linear = λ a i k n r e. absurd (cc);
    };
    clocked = record {
      rises = λ a b r t l at bt. absurd (cc);
      bounded = λ a r at. absurd (cc);
      after_submission = λ p b n e op at bt. absurd (cc);
    };
  };
  count = refl;
  posted = λ j op e is. absurd (cc);
}

new_traced : Laws → (s : SetupView) → is_size s.size ≡ true → IsTraced (new_endpoint s) (new_log s)
new_traced w s h = record {
  registers = reset_sized s h;
  has = record { extent = refl; bytes = w.none (record { base = 0; size = s.size; block = 128 }); state = no_state s };
  blocks = tt;
  under_way = tt;
}

-- ---- all calls

pub record IsWhole (size : ℕ) (e : EndpointView) (l : LogView) : Type 0 where
  pub traced : IsTraced e l
  pub told : IsTold size e l

one_call : Laws → Carries → Stays → Spelled → (size : ℕ) (e : EndpointView) (l : LogView) (c : Call) (cs : List Call) → AreBytes (c ∷ cs) → Moves e → IsWhole size e l → IsWhole size (after_call e c) (logged e l c) × AreBytes cs
one_call w carries stays spelled size e l (Take b) cs bytes m i =
    let a = becomes_asked spelled b bytes.0 in
    let came = carries_poison b in
    let after = taken_as e (becomes b) in
    let l' = logged e l (Take b) in
    (record { traced = poison_traced stays came after l' (took w stays e l (becomes b) a i.traced); told = poison_told size came after l' (took_told w carries size e l (becomes b) a i.traced i.told) }, bytes.1)
one_call w carries stays spelled size e l Act cs bytes m i = (record { traced = acts w stays e l m i.traced; told = acts_told w size e l i.traced i.told }, bytes)
one_call w carries stays spelled size e l Reset cs bytes m i = (record { traced = resets e l i.traced; told = resets_told size e l i.told }, bytes)

all_calls : Laws → Carries → Stays → Spelled → Leaves → (s : SetupView) (before cs : List Call) (l : LogView) → AreBytes cs → IsWhole s.size (after_calls (new_endpoint s) before) l
    → IsWhole s.size (after_calls (after_calls (new_endpoint s) before) cs) (log_after (after_calls (new_endpoint s) before) l cs)
unfolding log_after
all_calls w carries stays spelled leaves s before [] l bytes i = i
all_calls w carries stays spelled leaves s before (c ∷ cs) l bytes i =
    let e = after_calls (new_endpoint s) before in
    let step = one_call w carries stays spelled s.size e l c cs bytes (moves leaves s before) i in
    let same : after_calls (new_endpoint s) (before ++ c ∷ []) ≡ after_call e c = one_more (new_endpoint s) before c in
    subst (λ (x : EndpointView). IsWhole s.size (after_calls x cs) (log_after x (logged e l c) cs)) same
    (all_calls w carries stays spelled leaves s (before ++ c ∷ []) cs (logged e l c) step.1 (subst (λ (x : EndpointView). IsWhole s.size x (logged e l c)) (sym same) step.0))

new_told : (s : SetupView) → IsTold s.size (new_endpoint s) (new_log s)
new_told s = record { setup = refl; made = λ a i k n op e. absurd (cc); fresh = tt }

-- the laws that are used
pub record Rules : Type 0 where
  pub laws : Laws
  pub carries : Carries
  pub stays : Stays
  pub spelled : Spelled
  pub leaves : Leaves

pub whole : Rules → (s : SetupView) (cs : List Call) → is_size s.size ≡ true → AreBytes cs → IsWhole s.size (after_calls (new_endpoint s) cs) (log_after (new_endpoint s) (new_log s) cs)
whole r s cs h bytes = all_calls r.laws r.carries r.stays r.spelled r.leaves s [] cs (new_log s) bytes (record { traced = new_traced r.laws s h; told = new_told s })

pub explained : Rules → (s : SetupView) (cs : List Call) → is_size s.size ≡ true → AreBytes cs → Explains (claim_after s cs)
explained r s cs h bytes = (whole r s cs h bytes).traced.has.state.kept.explains

pub clocked : Rules → (s : SetupView) (cs : List Call) → is_size s.size ≡ true → AreBytes cs → IsClocked (claim_after s cs)
clocked r s cs h bytes = (whole r s cs h bytes).traced.has.state.kept.clocked

pub same_memory : Rules → (s : SetupView) (cs : List Call) → is_size s.size ≡ true → AreBytes cs → extent_of (claim_after s cs).memory ≡ record { base = 0; size = s.size; block = 128 }
same_memory r s cs h bytes = let i = whole r s cs h bytes in i.traced.has.extent ∙ ap memory i.told.setup

pub submitted : Rules → (s : SetupView) (cs : List Call) (a i k n : ℕ) (op : Op) → is_size s.size ≡ true → AreBytes cs → slice_get (claim_after s cs).records a ≡ Some (Sub i k op n) → (i ≡ 1) × (k < submitted_after s cs) × IsBlockRequest s.size op
submitted r s cs a i k n op h bytes e = let x = whole r s cs h bytes in submitted_fact r.laws s.size _ _ x.traced x.told a i k n op e

pub answered : Rules → (s : SetupView) (cs : List Call) (a i k n : ℕ) (reply : Reply) → is_size s.size ≡ true → AreBytes cs → slice_get (claim_after s cs).records a ≡ Some (Ans i k reply n) → (i ≡ 1) × (k < submitted_after s cs) × IsDataReply reply
answered r s cs a i k n reply h bytes e = let x = whole r s cs h bytes in answered_fact r.laws s.size _ _ x.traced x.told a i k n reply e

pub entered : Rules → (s : SetupView) (cs : List Call) (p : ℕ) (x : Entry) → is_size s.size ≡ true → AreBytes cs → slice_get (claim_after s cs).memory.entries p ≡ Some x → (x.requester ≡ 1) × (x.number < submitted_after s cs) × IsBlockRequest s.size x.op
entered r s cs p x h bytes e = let y = whole r s cs h bytes in entered_fact r.laws s.size _ _ y.traced y.told p x e
