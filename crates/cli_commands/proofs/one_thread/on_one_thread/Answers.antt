use Rattle.std.proofs.Common.{◌≡◌, ◌≢◌, ◌⊎◌, ◌∙◌, Bool, List, ℕ, [], ◌∷◌, Option, Some, None, IfSome, map, arith, sym, subst, inl, inr, refl}
use Rattle.std.proofs.lemmas.List.{append-nil}
use Rattle.std.specs.Io.KnownBytes.{Appends, Consumes}
use Rattle.clap.specs.Words.{HasKind, IsAmong, Kinds, Row, Text, kind_of, subcommand_of}
use Rattle.clap.specs.declared.error.kind.ErrorKind.{ErrorKind}
use Rattle.clap.specs.declared.error.kind.ErrorKind.TheVariants as kinds
use Rattle.cli_words.specs.declared.outputs.SearchOutput.{SearchOutput}
use Rattle.cli_words.specs.declared.outputs.SearchOutput.TheVariants as outputs
use Rattle.cli_words.specs.declared.words.Request.{Request}
use Rattle.cli_words.specs.declared.words.Request.TheVariants.{Tlp, Endpoint, Linked, Decode, Encode, Check, Search, Draw, Upgrade, Step, Chart, Generate, Sweep, Run as run_words}
use Rattle.cli_words.specs.declared.words.RequestFault.{RequestFault}
use Rattle.cli_words.specs.declared.words.RequestFault.TheVariants as faults
use Rattle.cli_words.specs.Faults.{WordsFault, RangeFault, IsMemoryFault}
use Rattle.cli_words.specs.Options.{the_app, Asks}
use Rattle.line_loop.specs.Run.{Run, IsBeginning, IsPart as IsPartOf}
use Rattle.parameters.specs.declared.counting.Counting.{Counting}
use Rattle.worker_report.specs.declared.halt.RunHalt.TheVariants as halts
use Rattle.run_engine.specs.Text.{IsPart, halt_text}
use Rattle.log_pieces.specs.declared.Granularity.{Granularity}
use Rattle.sweep_engine.specs.declared.options.Sweep.{Sweep as SweepAsked}
use Rattle.sweep_engine.specs.Sweep.{IsPart as IsPartOfSweep, none_said, whole_text}
use Rattle.cli_commands.specs.Command.{IsBegun, IsDone, IsPartAs, IsRightRequest, AskForNoText, AreRefused}
use Rattle.cli_commands.proofs.one_thread.on_one_thread.Goals as goal

-- words that `clap` takes and that ask for something are refused for being out of memory alone
want : (fault : RequestFault) (taken : Type 0) (o : Option (Text × List Row)) (r : Request)
    → WordsFault (λ e. taken → kind_of e ≡ kinds.OutOfMemory) fault → RangeFault ((r : Request) → Asks o r → ⊥) fault
    → taken → Asks o r → IsMemoryFault fault
want (faults.Words e) taken o r words range t a = words t
want (faults.Value v) taken o r words range t a = range r a
want faults.Nothing taken o r words range t a = range r a

-- nothing written
appends : (w : Option (List ℕ)) → Appends w w []
appends None = tt
appends (Some xs) = sym (append-nil xs)

consumes-nothing : (u : Option (List ℕ)) → Consumes u u []
consumes-nothing None = tt
consumes-nothing (Some xs) = refl

-- nothing read and nothing written
nothing-done : {S : Type 0} (run : List ℕ → Run S) (u w : Option (List ℕ)) → IsPartOf run u u w w
nothing-done run u w = record {
  read = [];
  done = [];
  consumed = consumes-nothing u;
  written = appends w;
  begins = ((run []).text, refl);
  begins_all = all u;
}
  where
    all : (u : Option (List ℕ)) → IfSome u (λ input. IsBeginning [] (run input).text)
    all None = tt
    all (Some input) = ((run input).text, refl)

-- nothing written is a prefix of what being out of memory writes
nothing-counted : (counting : Counting) (w : Option (List ℕ)) → IsPart counting w w
nothing-counted counting w = record {
  text = halt_text halts.Memory;
  status = 1;
  output = inr (record { halt = halts.Memory; cause = tt; says = refl; tells = refl });
  done = [];
  begins = (halt_text halts.Memory, refl);
  written = appends w;
}

-- nothing written is a prefix of what is told of no seed
nothing-swept : (o : SweepAsked) (w : Option (List ℕ)) → IsPartOfSweep o w w
nothing-swept o w = record { saids = []; said = tt; few = omega arith; done = []; begins = (whole_text none_said, refl); written = appends w }

-- nothing was read, and nothing written
nothing-searched : (output : SearchOutput) (size : Granularity) (limit work : ℕ) (u w : Option (List ℕ)) → IsPartAs output size (record { choices = limit; work = work }) u u w w
nothing-searched outputs.Answer size limit work u w = record { read = []; consumed = consumes-nothing u; done = []; begins = inl refl; written = appends w }
nothing-searched outputs.Core size limit work u w = record { read = []; consumed = consumes-nothing u; done = []; begins = inl refl; written = appends w }
nothing-searched outputs.Picture size limit work u w = record { read = []; consumed = consumes-nothing u; done = []; begins = inl refl; written = appends w }

-- nothing was done, and status 1 tells it
undone : (r : Request) (input out : Option (List ℕ)) (exit : ℕ) → exit ≡ 1 → IsDone r input input out out exit
undone (Tlp x) input out exit e = inr (e, nothing-done _ input out)
undone (Endpoint setup is_traced) input out exit e = inr (e, nothing-done _ input out)
undone (Linked setup is_traced ours has_crc) input out exit e = inr (e, nothing-done _ input out)
undone Decode input out exit e = inr (e, nothing-done _ input out)
undone Encode input out exit e = inr (e, nothing-done _ input out)
undone (Check is_clocked) input out exit e = inr (e, nothing-done _ input out)
undone (Search limit work size output is_told) input out exit e = inr (e, nothing-searched output size limit work input out)
undone Upgrade input out exit e = inr (e, nothing-done _ input out)
undone (Draw from to) input out exit e = inr (e, nothing-done _ input out)
undone (Step is_traced keeps_going echoes) input out exit e = inr (e, nothing-done _ input out)
undone (Chart lane from to has_all has_levels) input out exit e = inr (e, nothing-done _ input out)
undone (Generate storm) input out exit e = (refl, inr (e, record { done = []; begins = inl refl; written = appends out }))
undone (Sweep storm last is_clocked keeps_going workers) input out exit e = (refl, inr (e, nothing-swept _ out))
undone (run_words counting is_told) input out exit e = (refl, inr (e, nothing-counted counting out))

-- words that ask for nothing are refused, and nothing is written
none : {A : Type 0} (fault : RequestFault) (taken : Type 0) (status : ℕ) (old new : A) → WordsFault (λ e. taken → kind_of e ≡ kinds.OutOfMemory) fault → taken
    → (IsMemoryFault fault → status ≡ 1) → (IsMemoryFault fault → new ≡ old) → RangeFault (status ≡ 2) fault → RangeFault (new ≡ old) fault
    → ((status ≡ 1) ⊎ (status ≡ 2)) × (new ≡ old)
none (faults.Words e) taken status old new words t m same r range_same = (inl (m (words t)), same (words t))
none (faults.Value v) taken status old new words t m same r range_same = (inr r, range_same)
none faults.Nothing taken status old new words t m same r range_same = (inr r, range_same)

-- words without a fault are not refused
not_refused : {X : Type 0} (faults : Kinds) → faults ≡ [] → AreRefused faults → X
not_refused faults none refused = absurd (refused.0 none)

-- no kind of those asks for a text
no_text : (k : ErrorKind) (faults : Kinds) → AskForNoText faults → IsAmong k faults → (k ≢ kinds.DisplayHelp) × (k ≢ kinds.DisplayVersion)
no_text k [] other among = absurd among
no_text k (f ∷ fs) other (inl is) = (λ e. other.0 (sym is ∙ e), λ e. other.1 (sym is ∙ e))
no_text k (f ∷ fs) other (inr rest) = no_text k fs other.2 rest

not_help : kinds.OutOfMemory ≢ kinds.DisplayHelp
not_help e = cc

not_version : kinds.OutOfMemory ≢ kinds.DisplayVersion
not_version e = cc

-- an error that is told so is of no text
no_text_of : (k : ErrorKind) (faults : Kinds) → AskForNoText faults → (k ≡ kinds.OutOfMemory) ⊎ IsAmong k faults
    → (k ≢ kinds.DisplayHelp) × (k ≢ kinds.DisplayVersion)
no_text_of k fs other (inl memory) = (λ e. not_help (sym memory ∙ e), λ e. not_version (sym memory ∙ e))
no_text_of k fs other (inr among) = no_text k fs other among

-- words that the parser refuses are told of on the error stream alone
refused_words : {A : Type 0} (fault : RequestFault) (faults : Kinds) (status : ℕ) (old new : A) → WordsFault (HasKind faults) fault
    → RangeFault (faults ≡ []) fault
    → WordsFault (λ e. kind_of e ≢ kinds.DisplayHelp → kind_of e ≢ kinds.DisplayVersion → ((status ≡ 1) ⊎ (status ≡ 2)) × (new ≡ old)) fault
    → AreRefused faults → ((status ≡ 1) ⊎ (status ≡ 2)) × (new ≡ old)
refused_words (faults.Words e) kinds_of status old new kind range told refused =
    let none = no_text_of (kind_of e) kinds_of refused.1 kind in
    told none.0 none.1
refused_words (faults.Value v) kinds_of status old new kind range told refused = not_refused kinds_of range refused
refused_words faults.Nothing kinds_of status old new kind range told refused = not_refused kinds_of range refused

-- what is asked for can be done
right_request : (o : Option (Text × List Row)) (r : Request) → Asks o r → IsRightRequest r
right_request None r a = absurd a
right_request (Some p) (Generate storm) a = a.1.right
right_request (Some p) (Sweep storm last is_clocked keeps_going workers) a = record { storm = a.1.right; ordered = a.1.ordered; workers = a.1.workers_right }
right_request (Some p) (run_words counting is_told) a = a.1.right
right_request (Some p) r a = tt

pub begin-requires : goal.begin-requires
begin-requires g c = right_request (subcommand_of the_app (map g.S.AsStr.text c.args.words.now)) c.in-Ok.request c.in-Ok.ensures.ok

pub returns-in-Ok : goal.returns-in-Ok
returns-in-Ok g c = record {
  run = λ request takes asks.
      subst (λ (r : Request). IsBegun r (g.R.Read.remaining c.args.reader.now) (g.R.Read.remaining c.begin.new.reader) (g.W.Write.contents c.args.writer.now) (g.W.Write.contents c.begin.new.writer) c.begin.result)
      (c.in-Ok.ensures.only request asks) c.begin.ensures.begun;
  nothing = λ takes empty. absurd (empty c.in-Ok.request c.in-Ok.ensures.ok);
  refused = not_refused _ c.in-Ok.ensures.faultless;
  right = c.begin.ensures.right;
}

pub returns-in-Err : goal.returns-in-Err
returns-in-Err g c = record {
  run = λ request takes asks.
      let memory = want _ _ _ request c.in-Err.ensures.words c.in-Err.ensures.range takes asks in
      let input = g.R.Read.remaining c.args.reader.now in
      let out = g.W.Write.contents c.args.writer.now in
      subst (λ (after : Option (List ℕ)). IsDone request input input out after c.refused-status.result) (sym (c.refused-status.ensures.same memory))
      (undone request input out c.refused-status.result (c.refused-status.ensures.status memory));
  nothing = λ takes empty. none _ _ _ _ _ c.in-Err.ensures.words takes c.refused-status.ensures.status c.refused-status.ensures.same c.refused-status.ensures.range c.refused-status.ensures.range_same;
  refused = refused_words _ _ _ _ _ c.in-Err.ensures.kinds c.in-Err.ensures.range_faultless c.refused-status.ensures.words;
  right = tt;
}
