-- Requests and completions as items.
use Rattle.std.proofs.Common.{◌≡◌, ℕ, List, refl, subst, Option, Some}
use Rattle.std.specs.Prelude.{unwrap_or}
use Rattle.tlp_core.specs.declared.packet.Kind.{Kind}
use Rattle.tlp_core.specs.declared.packet.Kind.TheVariants as kinds
use Rattle.tlp_core.specs.declared.packet.Body.{Body}
use Rattle.tlp_core.specs.declared.packet.Body.TheVariants as bodies
use Rattle.tlp_core.specs.TlpView.{TlpView}
use Rattle.tlp_core.specs.Operation.{op_of, op_at}
use Rattle.seq_memory.specs.Entries.{Reply}
use Rattle.seq_memory.specs.declared.reply.ReplyOf.TheVariants as replies
use Rattle.completer_core.specs.Completion.{completion_of, completion_for, unless_posted}
use Rattle.fabric_steps.specs.Whole.{Op, class_of_op, no_op, marked_completion}
use Rattle.fabric_steps.specs.Sound.{IsRequest}
use Rattle.flow_control.specs.Needs.{class_of}
use Rattle.fabric_steps.specs.Packets.{marked_packet}

class_at : (k : Kind) (b : Body) (dw : ℕ) (bytes : List ℕ) (op : Op) → op_at k b dw bytes ≡ Some op → class_of k ≡ class_of_op (unwrap_or (op_at k b dw bytes) no_op)
class_at kinds.MemoryRead (bodies.Request a f l) dw bytes op e = refl
class_at kinds.MemoryWrite (bodies.Request a f l) dw bytes op e = refl
class_at kinds.FetchAdd (bodies.Request a f l) dw bytes op e = refl
class_at kinds.Swap (bodies.Request a f l) dw bytes op e = refl
class_at kinds.Cas (bodies.Request a f l) dw bytes op e = refl
class_at kinds.Completion b dw bytes op e = absurd (cc)
class_at kinds.CompletionData b dw bytes op e = absurd (cc)
class_at kinds.MemoryRead (bodies.Completion c s n l) dw bytes op e = absurd (cc)
class_at kinds.MemoryWrite (bodies.Completion c s n l) dw bytes op e = absurd (cc)
class_at kinds.FetchAdd (bodies.Completion c s n l) dw bytes op e = absurd (cc)
class_at kinds.Swap (bodies.Completion c s n l) dw bytes op e = absurd (cc)
class_at kinds.Cas (bodies.Completion c s n l) dw bytes op e = absurd (cc)

pub request_is : (t : TlpView) (mark : ℕ) (op : Op) → op_of t ≡ Some op → IsRequest (marked_packet t mark)
request_is t mark op e = class_at t.kind t.body t.length t.payload op e

carries : (t c : TlpView) (mark : ℕ) (reply : Reply) → completion_for t reply ≡ Some c → marked_packet c mark ≡ marked_completion (marked_packet t mark) reply
carries t c mark replies.Done e = absurd (cc)
carries t c mark (replies.Data bytes) e = let P : TlpView → Type 0 = λ x. marked_packet x mark ≡ marked_completion (marked_packet t mark) (replies.Data bytes) in let is : _ ≡ c = some_is e in subst P is refl
  where
    some_is : {x y : TlpView} → Some x ≡ Some y → x ≡ y
    some_is h = cc
carries t c mark replies.Unsupported e = let P : TlpView → Type 0 = λ x. marked_packet x mark ≡ marked_completion (marked_packet t mark) replies.Unsupported in subst P (some_is e) refl
  where
    some_is : {x y : TlpView} → Some x ≡ Some y → x ≡ y
    some_is h = cc
carries t c mark replies.Aborted e = let P : TlpView → Type 0 = λ x. marked_packet x mark ≡ marked_completion (marked_packet t mark) replies.Aborted in subst P (some_is e) refl
  where
    some_is : {x y : TlpView} → Some x ≡ Some y → x ≡ y
    some_is h = cc

pub not_written : (k : Kind) (o : Option TlpView) (c : TlpView) → unless_posted k o ≡ Some c → o ≡ Some c
not_written kinds.MemoryWrite o c e = absurd (cc)
not_written kinds.MemoryRead o c e = e
not_written kinds.FetchAdd o c e = e
not_written kinds.Swap o c e = e
not_written kinds.Cas o c e = e
not_written kinds.Completion o c e = e
not_written kinds.CompletionData o c e = e

-- the completion of a request, as an item
pub completion_is : (t c : TlpView) (mark : ℕ) (reply : Reply) → completion_of t reply ≡ Some c → marked_packet c mark ≡ marked_completion (marked_packet t mark) reply
completion_is t c mark reply e = carries t c mark reply (not_written t.kind (completion_for t reply) c e)
