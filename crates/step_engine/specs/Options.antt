-- What is asked of a run of a script.
use Rattle.std.specs.Prelude.{Bool, true, false}
use Rattle.step_engine.specs.declared.options.StepOptions.{StepOptions}

-- results alone or the trace alone, up to the first refusal
abbrev pub plain : Bool → StepOptions
plain is_traced = record { is_traced = is_traced; keeps_going = false; echoes = false }

-- the trace alone
abbrev pub traced : Bool → Bool → StepOptions
traced keeps_going echoes = record { is_traced = true; keeps_going = keeps_going; echoes = echoes }
