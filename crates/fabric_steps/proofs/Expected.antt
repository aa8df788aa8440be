-- What a requester collects is expected.
use Rattle.std.proofs.Common.{◌≡◌, ℕ, List, ◌∷◌, ◌++◌, map, refl, subst}
use Rattle.fabric_steps.specs.Lists.{Each}
use Rattle.fabric_steps.specs.Whole.{MarkedPacket, View, size_at, count_of, FitsSize, entry_of}
use Rattle.fabric_steps.specs.Sound.{IsCompletionFor, IsReply, IsReplyFor, IsSized, SoundAt}
use Rattle.fabric_steps.specs.Expected.{IsExpected}
use Rattle.fabric_steps.proofs.Lists.{each_split, each_at}

pub expected : (i : ℕ) (v : View) (c : MarkedPacket) (rest : List MarkedPacket) → SoundAt i v → v.down ≡ c ∷ rest → IsExpected i v.requester c
expected i v c rest s d =
    let f : IsCompletionFor i c = (subst (Each (IsCompletionFor i)) d s.own_completions).0 in
    let r : IsReply v.extent i v.requester v.history c = (subst (Each (IsReplyFor v.extent i v.requester v.history)) d (each_split (IsReplyFor v.extent i v.requester v.history) v.outward v.down s.replies).1).0 f.0 in
    let z : count_of r.op ≡ size_at v.requester c.tag = each_at (IsSized i r.number (size_at v.requester c.tag)) v.history r.point (record { requester = i; number = r.number; op = r.op }) r.acted
    (each_split (IsSized i r.number (size_at v.requester c.tag)) v.history (map entry_of v.inward ++ map entry_of v.up) (s.open_sized c.tag r.number r.open_tag)).0 refl refl in
    record { own = f.0; kind = f.1; number = r.number; tag_open = r.open_tag; size = subst (λ (n : ℕ). FitsSize n c.reply) z r.sized }
