-- The room that a packet's payload needs.
use Rattle.std.proofs.Common.{◌≡◌, ◌∙◌, ℕ, ◌+◌, ◌≤◌, List, ◌++◌, length, take, sym, ap, append_assoc, length-append, arith}
use Rattle.std.proofs.lemmas.List.{take_at}
use Rattle.tlp_core.specs.declared.packet.Kind.{Kind}
use Rattle.tlp_core.specs.declared.packet.Kind.TheVariants as kinds
use Rattle.tlp_core.specs.declared.packet.Body.{Body}
use Rattle.tlp_core.specs.declared.packet.Body.TheVariants as bodies
use Rattle.tlp_core.specs.TlpView.{TlpView, IsPacket, FitsKind}

few : (k : Kind) (body : Body) (dw given : ℕ) → FitsKind k body dw given → given ≤ 128
few kinds.MemoryRead (bodies.Request a f l) dw given h = omega (arith, h.2)
few kinds.MemoryWrite (bodies.Request a f l) dw given h = omega (arith, h.1, h.2)
few kinds.FetchAdd (bodies.Request a f l) dw given h = grind (arith)
few kinds.Swap (bodies.Request a f l) dw given h = grind (arith)
few kinds.Cas (bodies.Request a f l) dw given h = grind (arith)
few kinds.Completion (bodies.Completion c s n lower) dw given h = omega (arith, h.4)
few kinds.CompletionData (bodies.Completion c s n lower) dw given h = omega (arith, h.4, h.5)
few kinds.MemoryRead (bodies.Completion c s n lower) dw given h = absurd h
few kinds.MemoryWrite (bodies.Completion c s n lower) dw given h = absurd h
few kinds.FetchAdd (bodies.Completion c s n lower) dw given h = absurd h
few kinds.Swap (bodies.Completion c s n lower) dw given h = absurd h
few kinds.Cas (bodies.Completion c s n lower) dw given h = absurd h
few kinds.Completion (bodies.Request a f l) dw given h = absurd h
few kinds.CompletionData (bodies.Request a f l) dw given h = absurd h

pub fits_room : (t : TlpView) → IsPacket t → length t.payload ≤ 128
fits_room t h = few t.kind t.body t.length (length t.payload) h.fits

-- two parts that are put one behind the other
pub two_parts : (s p : ℕ) (a b x y whole : List ℕ) → length a ≡ s → length b ≡ p → whole ≡ a ++ b → take (s + p) (take s (a ++ x) ++ (b ++ y)) ≡ whole
two_parts s p a b x y whole ea eb e =
    ap (λ zs. take (s + p) (zs ++ (b ++ y))) (take_at a x s ea)
    ∙ ap (take (s + p)) (sym (append_assoc a b y))
    ∙ take_at (a ++ b) y (s + p) (omega (arith, length-append a b, ea, eb))
    ∙ sym e
