-- What the engine keeps of a memory and its history: the bytes, and how many requests of each port acted.
use Rattle.std.specs.Prelude.{ℕ, ◌/◌, ◌+◌, List, replicate, slice_index, slice_set}
use Rattle.seq_memory.specs.Limits.{Extent}
use Rattle.completer_core.specs.Serving.{bytes_after, completion_over}
use Rattle.tlp_core.specs.TlpView.{TlpView}
use Rattle.line_loop.specs.Run.{Responses}
use Rattle.packet_engine.specs.Tlp.{Device, responses}

pub record CompleterView : Type 0 where
  pub base : ℕ
  pub block : ℕ
  pub bytes : List ℕ
  pub counts : List ℕ

-- zeros, and no request of any port
abbrev pub new_kept : Extent → CompleterView
new_kept x = record { base = x.base; block = x.block; bytes = replicate x.size 0; counts = replicate 256 0 }

-- a request acts on the bytes, and counts for its port
abbrev pub after_request : CompleterView → TlpView → ℕ → CompleterView
after_request k t number = record k { bytes = bytes_after k.base k.block k.bytes t; counts = slice_set k.counts (t.requester / 256) (number + 1) }

abbrev pub without_history : Device CompleterView
without_history = record { count = λ k port. slice_index k.counts port; after = after_request; completion = λ k t. completion_over k.base k.block k.bytes t }

abbrev pub kept_responses : Responses CompleterView
kept_responses = responses without_history
