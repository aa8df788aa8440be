-- Words of which an option is refused ask for nothing.
use Rattle.std.proofs.Common.{◌≡◌, ◌∙◌, ◌≤◌, ℕ, Bool, List, [], ◌∷◌, Option, Some, None, refl, sym, subst, arith, codes, inl, inr}
use Rattle.std.proofs.lemmas.Option.{IfSome_then}
use Rattle.clap.specs.Words.{Row, Text, first_of}
use Rattle.parameters.specs.declared.counting.Counting.{Counting}
use Rattle.parameters.specs.declared.storm.Storm.{Storm}
use Rattle.seq_memory.specs.Limits.{Extent, IsBlock}
use Rattle.cli_options.specs.declared.options.ValueOption.{ValueOption}
use Rattle.cli_options.specs.declared.options.ValueOption.TheVariants.{Size, Workers, From, To}
use Rattle.cli_options.specs.declared.refused.RefusedValue.{RefusedValue}
use Rattle.cli_options.specs.Values.{Gives, GivesBase, GivesOptional, IsAmong, multiples}
use Rattle.config_core.specs.SetupView.{SetupView}
use Rattle.flow_control.specs.declared.limits.LaneCredits.{LaneCredits}
use Rattle.cli_words.specs.Links.{IsLinked, IsUnlinked}
use Rattle.fabric_steps.specs.declared.event.LaneName.{LaneName}
use Rattle.log_pieces.specs.declared.Granularity.{Granularity}
use Rattle.cli_words.specs.declared.outputs.SearchOutput.{SearchOutput}
use Rattle.cli_words.specs.declared.words.Request.{Request}
use Rattle.cli_words.specs.declared.words.Request.TheVariants.{Tlp, Endpoint, Linked, Search, Draw, Chart, Generate, Sweep, Run}
use Rattle.cli_words.specs.Options.{Asks, AsksTlp, AsksEndpoint, AsksSearch, WritesOutput, AsksDraw, AsksChart, AsksGenerate, AsksSweep, AsksRun}
use Rattle.cli_words.specs.Refusals.{AreRight, IsFirstWrong, Refuses, RefusesOption, RefusesTlp, RefusesDevice, RefusesWithoutLink, RefusesLink, RefusesEndpoint, RefusesSearch, RefusesDraw, RefusesChart, RefusesSweep, RefusesRun, tlp_values, search_values, draw_values, chart_values, generate_values, sweep_values, run_values}
use Rattle.cli_words.proofs.RequestsAsked.{name_of, asks_name, differ, not_both, true_or_false}

-- where each is right, none is the first that is wrong
none_wrong : (rows : List Row) (ps : List (ValueOption × Option ℕ)) (option : ValueOption) → AreRight rows ps → IsFirstWrong rows ps option → ⊥
none_wrong rows [] option a w = w
none_wrong rows (p ∷ ps) option a (inl w) = w.1 a.0.0 a.0.1
none_wrong rows (p ∷ ps) option a (inr w) = none_wrong rows ps option a.1 w.1

among : (least most n : ℕ) → least ≤ n → n ≤ most → IsAmong (multiples 1 least most) n
among least most n l m = record { least = l; most = m; multiple = omega arith }

-- a number of 0 or more
up_to : (most n : ℕ) → n ≤ most → IsAmong (multiples 1 0 most) n
up_to most n m = among 0 most n (omega arith) m

among_blocks : (block : ℕ) → IsBlock block → IsAmong (multiples 64 64 128) block
among_blocks block (inl e) = subst (λ (n : ℕ). IsAmong (multiples 64 64 128) n) (sym e) (record { least = omega arith; most = omega arith; multiple = refl })
among_blocks block (inr e) = subst (λ (n : ℕ). IsAmong (multiples 64 64 128) n) (sym e) (record { least = omega arith; most = omega arith; multiple = refl })

-- the values of what is asked for are right
tlp_base : (rows : List Row) (x : Extent) → AsksTlp rows x → GivesBase (first_of (codes "base") rows) x.base
tlp_base rows x a =
    (a.base_read, record { least = omega arith; most = omega (arith, a.memory.in_base.1, a.memory.in_size.0); multiple = a.memory.in_base.0 })

tlp_size : (rows : List Row) (x : Extent) → AsksTlp rows x → Gives Size (Some 4096) (first_of (codes "size") rows) x.size
tlp_size rows x a =
    let m = a.memory in
    (a.size_read, record { least = m.in_size.0; most = m.in_size.1; multiple = m.in_size.2 })

tlp_right : (rows : List Row) (x : Extent) → AsksTlp rows x → AreRight rows tlp_values
tlp_right rows x a = ((x.size, tlp_size rows x a), ((x.block, (a.block_read, among_blocks x.block a.memory.in_block)), tt))

search_right : (rows : List Row) (limit work : ℕ) (size : Granularity) → AsksSearch rows limit work size → AreRight rows search_values
search_right rows limit work size a =
    ((limit, (a.limit_read, among 1 1000000000 limit a.least a.most)), ((work, (a.work_read, among 1 1000000000000 work a.some_work a.most_work)), tt))

draw_from : (rows : List Row) (from to : ℕ) → AsksDraw rows from to → Gives From (Some 0) (first_of (codes "from") rows) from
draw_from rows from to a = (a.from_read, up_to 18446744073709551615 from (omega (arith, a.ordered, a.fits)))

draw_to : (rows : List Row) (from to : ℕ) → AsksDraw rows from to → Gives To (Some 18446744073709551615) (first_of (codes "to") rows) to
draw_to rows from to a = (a.to_read, up_to 18446744073709551615 to (omega (arith, a.fits)))

draw_right : (rows : List Row) (from to : ℕ) → AsksDraw rows from to → AreRight rows draw_values
draw_right rows from to a = ((from, draw_from rows from to a), ((to, draw_to rows from to a), tt))

chart_from : (rows : List Row) (lane : Option LaneName) (from to : ℕ) (t u : Bool) → AsksChart rows lane from to t u → Gives From (Some 1) (first_of (codes "from") rows) from
chart_from rows lane from to t u a = (a.from_read, up_to 18446744073709551615 from (omega (arith, a.ordered, a.fits)))

chart_to : (rows : List Row) (lane : Option LaneName) (from to : ℕ) (t u : Bool) → AsksChart rows lane from to t u → Gives To (Some 18446744073709551615) (first_of (codes "to") rows) to
chart_to rows lane from to t u a = (a.to_read, up_to 18446744073709551615 to (omega (arith, a.fits)))

chart_right : (rows : List Row) (lane : Option LaneName) (from to : ℕ) (t u : Bool) → AsksChart rows lane from to t u → AreRight rows chart_values
chart_right rows lane from to t u a = ((from, chart_from rows lane from to t u a), ((to, chart_to rows lane from to t u a), tt))

generate_right : (rows : List Row) (s : Storm) → AsksGenerate rows s → AreRight rows generate_values
generate_right rows s a =
    let r = a.right in (
      (s.seed, (a.seed_read, up_to 18446744073709551615 s.seed (omega (arith, a.fits)))),
      (
        (s.events, (a.events_read, up_to 1000000000 s.events r.events)),
        (
          (s.requesters, (a.requesters_read, among 1 7 s.requesters r.requesters.0 r.requesters.1)),
          (
            (s.lose, (a.lose_read, up_to 65536 s.lose r.lose)),
            ((s.corrupt, (a.corrupt_read, up_to 65536 s.corrupt r.corrupt)), ((s.block, (a.block_read, among_blocks s.block r.block)), tt)),
          ),
        ),
      ),
    )

sweep_right : (rows : List Row) (s : Storm) (n : ℕ) (w : Option ℕ) → AsksSweep rows s n w → AreRight rows sweep_values
sweep_right rows s n w a =
    let r = a.right in (
      (s.events, (a.events_read, up_to 1000000000 s.events r.events)),
      (
        (s.requesters, (a.requesters_read, among 1 7 s.requesters r.requesters.0 r.requesters.1)),
        (
          (s.lose, (a.lose_read, up_to 65536 s.lose r.lose)),
          ((s.corrupt, (a.corrupt_read, up_to 65536 s.corrupt r.corrupt)), ((s.block, (a.block_read, among_blocks s.block r.block)), tt)),
        ),
      ),
    )

run_right : (rows : List Row) (c : Counting) → AsksRun rows c → AreRight rows run_values
run_right rows c a =
    let r = a.right in (
      (c.requesters, (a.requesters_read, among 1 7 c.requesters r.requesters.0 r.requesters.1)),
      (
        (c.each, (a.each_read, up_to 100000 c.each r.each)),
        (
          (c.lose, (a.lose_read, up_to 65536 c.lose r.lose)),
          (
            (c.corrupt, (a.corrupt_read, up_to 65536 c.corrupt r.corrupt)),
            ((c.turns, (a.turns_read, among 1 1000000000 c.turns r.turns.0 r.turns.1)), tt),
          ),
        ),
      ),
    )

-- so what is refused is not asked for
refused_tlp : (rows : List Row) (option : ValueOption) (x : Extent) → RefusesTlp rows option → AsksTlp rows x → ⊥
refused_tlp rows option x (inl h) a = h.1 x.base (tlp_base rows x a)
refused_tlp rows option x (inr (inl h)) a = none_wrong rows tlp_values option (tlp_right rows x a) h.1
refused_tlp rows option x (inr (inr h)) a =
    h.3 x.base x.size (tlp_base rows x a) (tlp_size rows x a) a.memory.in_base.1

refused_search : (rows : List Row) (option : ValueOption) (limit work : ℕ) (size : Granularity) (output : SearchOutput) → RefusesSearch rows option → AsksSearch rows limit work size → WritesOutput rows output → ⊥
refused_search rows option limit work size output (inl h) a o = none_wrong rows search_values option (search_right rows limit work size a) h
refused_search rows option limit work size output (inr (inl h)) a o = h.2 size a.granularity_read
refused_search rows option limit work size output (inr (inr h)) a o = not_both rows output o h.2.1 h.2.2

refused_draw : (rows : List Row) (option : ValueOption) (from to : ℕ) → RefusesDraw rows option → AsksDraw rows from to → ⊥
refused_draw rows option from to (inl h) a = none_wrong rows draw_values option (draw_right rows from to a) h
refused_draw rows option from to (inr h) a = h.2 from to (draw_from rows from to a) (draw_to rows from to a) a.ordered

refused_chart : (rows : List Row) (option : ValueOption) (lane : Option LaneName) (from to : ℕ) (t u : Bool) → RefusesChart rows option → AsksChart rows lane from to t u → ⊥
refused_chart rows option lane from to t u (inl h) a = h.1 lane a.lane_read
refused_chart rows option lane from to t u (inr (inl h)) a = none_wrong rows chart_values option (chart_right rows lane from to t u a) h.1
refused_chart rows option lane from to t u (inr (inr h)) a = h.3 from to (chart_from rows lane from to t u a) (chart_to rows lane from to t u a) a.ordered

run_workers : (rows : List Row) (c : Counting) → AsksRun rows c → GivesOptional Workers (first_of (codes "workers") rows) c.workers
run_workers rows c a = (a.workers_read, IfSome_then c.workers a.right.workers (λ n w. among 1 64 n w.0 w.1))

refused_run : (rows : List Row) (option : ValueOption) (c : Counting) → RefusesRun rows option → AsksRun rows c → ⊥
refused_run rows option c (inl h) a = none_wrong rows run_values option (run_right rows c a) h
refused_run rows option c (inr h) a = h.2 c.workers (run_workers rows c a)

refused_sweep : (rows : List Row) (option : ValueOption) (s : Storm) (n : ℕ) (w : Option ℕ) → RefusesSweep rows option → AsksSweep rows s n w → ⊥
refused_sweep rows option s n w (inl h) a = h.1 (s.seed, n) a.seeds_read
refused_sweep rows option s n w (inr (inl h)) a = none_wrong rows sweep_values option (sweep_right rows s n w a) h.1
refused_sweep rows option s n w (inr (inr h)) a = h.3 w (a.workers_read, IfSome_then w a.workers_right (λ m b. among 1 64 m b.0 b.1))

tlp_nothing : (p : Text × List Row) (option : ValueOption) → p.0 ≡ codes "tlp" → RefusesTlp p.1 option → (r : Request) → Asks (Some p) r → ⊥
tlp_nothing p option e h (Tlp x) a = refused_tlp p.1 option x h a.1
tlp_nothing p option e h r a = differ (codes "tlp") (name_of r) refl (sym e ∙ asks_name p r a)

refused_device : (rows : List Row) (option : ValueOption) (s : SetupView) → RefusesDevice rows option → AsksEndpoint rows s → ⊥
refused_device rows option s (inl h) a = h.1 s.size a.size_read
refused_device rows option s (inr h) a = h.2 (s.vendor, s.device) a.id_read

unlinked_credits : (rows : List Row) (option : ValueOption) → RefusesWithoutLink rows option → IsUnlinked rows → ⊥
unlinked_credits rows option (inl h) a = true_or_false (first_of (codes "crc") rows) h.1 a.crc_read
unlinked_credits rows option (inr h) a = h.2 a.credits_read

refused_unlinked : (rows : List Row) (option : ValueOption) → RefusesLink rows option → IsUnlinked rows → ⊥
refused_unlinked rows option (inl h) a = unlinked_credits rows option h.1 a
refused_unlinked rows option (inr h) a = true_or_false (first_of (codes "link") rows) h.1 a.link_read

refused_linked : (rows : List Row) (option : ValueOption) (c : LaneCredits) (crc : Bool) → RefusesLink rows option → IsLinked rows c crc → ⊥
refused_linked rows option c crc (inl h) a = true_or_false (first_of (codes "link") rows) a.link_read h.0
refused_linked rows option c crc (inr h) a = h.2 c a.credits_read

endpoint_nothing : (p : Text × List Row) (option : ValueOption) → p.0 ≡ codes "endpoint" → RefusesEndpoint p.1 option → (r : Request) → Asks (Some p) r → ⊥
endpoint_nothing p option e (inl h) (Endpoint s t) a = refused_device p.1 option s h a.1
endpoint_nothing p option e (inr h) (Endpoint s t) a = refused_unlinked p.1 option h.2 a.3
endpoint_nothing p option e (inl h) (Linked s t c crc) a = refused_device p.1 option s h a.1
endpoint_nothing p option e (inr h) (Linked s t c crc) a = refused_linked p.1 option c crc h.2 a.3
endpoint_nothing p option e h r a = differ (codes "endpoint") (name_of r) refl (sym e ∙ asks_name p r a)

search_nothing : (p : Text × List Row) (option : ValueOption) → p.0 ≡ codes "search" → RefusesSearch p.1 option → (r : Request) → Asks (Some p) r → ⊥
search_nothing p option e h (Search limit work size output told) a = refused_search p.1 option limit work size output h a.1 a.2
search_nothing p option e h r a = differ (codes "search") (name_of r) refl (sym e ∙ asks_name p r a)

draw_nothing : (p : Text × List Row) (option : ValueOption) → p.0 ≡ codes "draw" → RefusesDraw p.1 option → (r : Request) → Asks (Some p) r → ⊥
draw_nothing p option e h (Draw from to) a = refused_draw p.1 option from to h a.1
draw_nothing p option e h r a = differ (codes "draw") (name_of r) refl (sym e ∙ asks_name p r a)

chart_nothing : (p : Text × List Row) (option : ValueOption) → p.0 ≡ codes "chart" → RefusesChart p.1 option → (r : Request) → Asks (Some p) r → ⊥
chart_nothing p option e h (Chart lane from to t u) a = refused_chart p.1 option lane from to t u h a.1
chart_nothing p option e h r a = differ (codes "chart") (name_of r) refl (sym e ∙ asks_name p r a)

generate_nothing : (p : Text × List Row) (option : ValueOption) → p.0 ≡ codes "generate" → IsFirstWrong p.1 generate_values option → (r : Request) → Asks (Some p) r → ⊥
generate_nothing p option e h (Generate s) a = none_wrong p.1 generate_values option (generate_right p.1 s a.1) h
generate_nothing p option e h r a = differ (codes "generate") (name_of r) refl (sym e ∙ asks_name p r a)

sweep_nothing : (p : Text × List Row) (option : ValueOption) → p.0 ≡ codes "sweep" → RefusesSweep p.1 option → (r : Request) → Asks (Some p) r → ⊥
sweep_nothing p option e h (Sweep s n c k w) a = refused_sweep p.1 option s n w h a.1
sweep_nothing p option e h r a = differ (codes "sweep") (name_of r) refl (sym e ∙ asks_name p r a)

run_nothing : (p : Text × List Row) (option : ValueOption) → p.0 ≡ codes "run" → RefusesRun p.1 option → (r : Request) → Asks (Some p) r → ⊥
run_nothing p option e h (Run c told) a = refused_run p.1 option c h a.1
run_nothing p option e h r a = differ (codes "run") (name_of r) refl (sym e ∙ asks_name p r a)

option_nothing : (p : Text × List Row) (option : ValueOption) → RefusesOption p.0 p.1 option → (r : Request) → Asks (Some p) r → ⊥
option_nothing p option (inl h) = tlp_nothing p option h.0 h.1
option_nothing p option (inr (inl h)) = draw_nothing p option h.0 h.1
option_nothing p option (inr (inr (inl h))) = generate_nothing p option h.0 h.1
option_nothing p option (inr (inr (inr (inl h)))) = run_nothing p option h.0 h.1
option_nothing p option (inr (inr (inr (inr (inl h))))) = chart_nothing p option h.0 h.1
option_nothing p option (inr (inr (inr (inr (inr (inl h)))))) = search_nothing p option h.0 h.1
option_nothing p option (inr (inr (inr (inr (inr (inr (inl h))))))) = endpoint_nothing p option h.0 h.1
option_nothing p option (inr (inr (inr (inr (inr (inr (inr h))))))) = sweep_nothing p option h.0 h.1

pub refused_nothing : (o : Option (Text × List Row)) (v : RefusedValue) → Refuses o v → (r : Request) → Asks o r → ⊥
refused_nothing None v h r a = h
refused_nothing (Some p) v h r a = option_nothing p v.option h.1 r a
