-- A packet that its canonical bytes spell has numbers that fit their fields.
use Rattle.std.proofs.Common.{◌≡◌, ℕ, ◌+◌, ◌*◌, ◌/◌, ◌%◌, ◌^◌, ◌<◌, List, length, arith}
use Rattle.tlp_core.specs.declared.packet.Kind.{Kind}
use Rattle.tlp_core.specs.declared.packet.Kind.TheVariants as kinds
use Rattle.tlp_core.specs.declared.packet.Body.{Body}
use Rattle.tlp_core.specs.declared.packet.Body.TheVariants as bodies
use Rattle.tlp_core.specs.TlpView.{TlpView, FitsKind}
use Rattle.tlp_core.specs.Layout.{Spells, canonical}

two_bytes : (x : ℕ) → x ≡ x / 256 ^ 1 % 256 * 256 ^ 1 + (x % 256 * 256 ^ 0 + 0) → x < 2 ^ 16
two_bytes x e = omega (arith, e)

abbrev packet : Kind → Body → ℕ → ℕ → ℕ → ℕ → ℕ → List ℕ → TlpView
packet k body tc attr len req tag pay = record { kind = k; tc = tc; attr = attr; length = len; requester = req; tag = tag; body = body; payload = pay }

fits_by : (k : Kind) (body : Body) (tc attr len req tag : ℕ) (pay : List ℕ) → FitsKind k body len (length pay) → Spells (canonical (packet k body tc attr len req tag pay)) (packet k body tc attr len req tag pay) → req < 2 ^ 16
fits_by kinds.MemoryRead (bodies.Request a f l) tc attr len req tag pay g s = two_bytes req s.requester
fits_by kinds.MemoryWrite (bodies.Request a f l) tc attr len req tag pay g s = two_bytes req s.requester
fits_by kinds.FetchAdd (bodies.Request a f l) tc attr len req tag pay g s = two_bytes req s.requester
fits_by kinds.Swap (bodies.Request a f l) tc attr len req tag pay g s = two_bytes req s.requester
fits_by kinds.Cas (bodies.Request a f l) tc attr len req tag pay g s = two_bytes req s.requester
fits_by kinds.Completion (bodies.Completion c st n lower) tc attr len req tag pay g s = two_bytes req s.requester
fits_by kinds.CompletionData (bodies.Completion c st n lower) tc attr len req tag pay g s = two_bytes req s.requester
fits_by _ _ tc attr len req tag pay g s = absurd g

pub requester_fits : (t : TlpView) → Spells (canonical t) t → t.requester < 2 ^ 16
requester_fits t s = fits_by t.kind t.body t.tc t.attr t.length t.requester t.tag t.payload s.grammar.fits s
