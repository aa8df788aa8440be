use Rattle.std.proofs.Common.{[], refl, inl, inr}
use Rattle.generate_engine.proofs.Scripts.{Appends-none, on_err}
use Rattle.generate_engine.proofs.generator.run_generate.Goals as goal

pub returns-in_err-generator-clause-part : goal.returns-in_err-generator-clause-part
returns-in_err-generator-clause-part g c = on_err c.from_residual.result (record { done = []; begins = inl refl; written = Appends-none _ })

pub returns-in-Ok-clause-ok : goal.returns-in-Ok-clause-ok
returns-in-Ok-clause-ok g c =
    let k = c.in-Ok.ensures.ok in
    let end = k.2 c.args.storm.now c.in_ok-generator.ensures in
    record {
      text = k.0;
      fabric = c.put_all.new.self.fabric;
      script = end.script;
      fated = end.counted.fated;
      written = k.1;
    }

pub returns-clause-part : goal.returns-clause-part
returns-clause-part g c =
    let k = c.in-Err.ensures.err in
    record {
      done = k.0;
      begins = inr (k.2 c.args.storm.now c.in_ok-generator.ensures);
      written = k.1;
    }
