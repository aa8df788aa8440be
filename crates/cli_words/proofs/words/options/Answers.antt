use Rattle.std.proofs.Common.{◌≡◌, ◌∙◌, List, Option, Some, None, map, option_map, subst}
use Rattle.std.proofs.lemmas.Result.{IfErr-weaker, IfOk-weaker}
use Rattle.clap.specs.Words.{Row, Text, found_of, rows_of, subcommand_of}
use Rattle.cli_words.specs.declared.words.Request.{Request}
use Rattle.cli_words.specs.declared.words.RequestFault.{RequestFault}
use Rattle.cli_words.specs.declared.words.RequestFault.TheVariants as faults
use Rattle.cli_words.specs.Faults.{RangeFault, ValueFault, IsRefusal}
use Rattle.cli_words.specs.Options.{the_app, Asks}
use Rattle.cli_words.specs.Refusals.{Refuses}
use Rattle.cli_words.proofs.RefusalsAskNothing.{refused_nothing}
use Rattle.cli_words.proofs.RequestsAsked.{asks_one}
use Rattle.cli_words.proofs.words.options.Goals as goal

-- a name and values that are found apart are found together
together : {T : Type 0} (f : T → Text) (g : T → List Row) (o : Option T) (name : Text) (rows : List Row) → Some name ≡ option_map f o
    → Some rows ≡ option_map (λ (p : Text × List Row). p.1) (option_map (λ (b : T). (f b, g b)) o) → ◌≡◌ {A = Option (Text × List Row)} (Some (name, rows)) (option_map (λ (b : T). (f b, g b)) o)
together f g None name rows e h = cc
together f g (Some b) name rows e h = cc

-- a refusal tells the value that is refused
value_told : (o : Option (Text × List Row)) (fault : RequestFault) → IsRefusal o fault → ValueFault (Refuses o) fault
value_told o (faults.Words e) h = tt
value_told o (faults.Value v) h = h
value_told o faults.Nothing h = tt

-- and what is refused asks for nothing
nothing_asked : (o : Option (Text × List Row)) (fault : RequestFault) → IsRefusal o fault → RangeFault ((r : Request) → Asks o r → ⊥) fault
nothing_asked o (faults.Words e) h = tt
nothing_asked o (faults.Value v) h = refused_nothing o v h
nothing_asked o faults.Nothing h = h

pub returns-in-Some-clause-value : goal.returns-in-Some-clause-value
returns-in-Some-clause-value g c =
    let o = subcommand_of the_app (map g.S.AsStr.text c.args.words.now) in
    let asked : ◌≡◌ {A = Option (Text × List Row)} (Some (c.in-Some.name.now, rows_of (found_of c.in-Some.values.now))) o = together _ _ _ _ _ c.in-Some.ensures.name c.in-Some.ensures.rows ∙ c.in-Ok.ensures.rows in
    IfErr-weaker c.named_request.result _ _ (λ fault h. value_told o fault (subst (λ (p : Option (Text × List Row)). IsRefusal p fault) asked h)) c.named_request.ensures.err

pub returns-in-Some-clause-range : goal.returns-in-Some-clause-range
returns-in-Some-clause-range g c =
    let o = subcommand_of the_app (map g.S.AsStr.text c.args.words.now) in
    let asked : ◌≡◌ {A = Option (Text × List Row)} (Some (c.in-Some.name.now, rows_of (found_of c.in-Some.values.now))) o = together _ _ _ _ _ c.in-Some.ensures.name c.in-Some.ensures.rows ∙ c.in-Ok.ensures.rows in
    IfErr-weaker c.named_request.result _ _ (λ fault h. nothing_asked o fault (subst (λ (p : Option (Text × List Row)). IsRefusal p fault) asked h)) c.named_request.ensures.err

pub returns-in-Some-clause-only : goal.returns-in-Some-clause-only
returns-in-Some-clause-only g c =
    let o = subcommand_of the_app (map g.S.AsStr.text c.args.words.now) in
    let asked : ◌≡◌ {A = Option (Text × List Row)} (Some (c.in-Some.name.now, rows_of (found_of c.in-Some.values.now))) o = together _ _ _ _ _ c.in-Some.ensures.name c.in-Some.ensures.rows ∙ c.in-Ok.ensures.rows in
    IfOk-weaker c.named_request.result _ _ (λ r h other a. asks_one o r other (subst (λ (p : Option (Text × List Row)). Asks p r) asked h) a) c.named_request.ensures.ok
