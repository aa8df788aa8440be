-- What an event, and what is written, do to a script.
use Rattle.std.proofs.Common.{◌≡◌, ◌∙◌, ◌++◌, ◌+◌, ◌≤◌, ℕ, List, [], ◌∷◌, length, refl, sym, ap, subst, arith, append_assoc, length-append, Option, Some, None, Result, Ok, Err, OnOk, OnErr, map}
use Rattle.std.proofs.lemmas.List.{append-nil, map-append}
use Rattle.std.proofs.lemmas.List.Elements.{All-nil, All-cons, All-append}
use Rattle.std.specs.Io.KnownBytes.{Appends}
use Rattle.line_loop.specs.Run.{IsBeginning}
use Rattle.history_words.specs.Records.{Record}
use Rattle.fabric_steps.specs.Fabric.{Fabric}
use Rattle.fabric_core.specs.declared.config.Config.{Config}
use Rattle.fabric_steps.specs.Event.{Event, Seen}
use Rattle.fabric_core.specs.Config.{IsNewWith}
use Rattle.fabric_core.specs.Kept.{records_of}
use Rattle.fabric_core.specs.Steps.{Happens}
use Rattle.fabric_core.specs.Runs.{Runs}
use Rattle.trace_text.specs.Texts.{lines_text}
use Rattle.script_text.specs.LineTexts.{event_line, fabric_line}
use Rattle.script_text.specs.Spelled.{IsSpelledEvent}
use Rattle.parameters.specs.declared.storm.Storm.{Storm}
use Rattle.generate_engine.specs.Arrivals.{IsAfter}
use Rattle.generate_engine.specs.Choice.{ChooserView, IsChosen}
use Rattle.generate_engine.specs.Script.{config_of, text_of, IsUnderWay, BeginsScript}

-- ---- one event more

runs-next : (f f' f'' : Fabric) (events : List Event) (event : Event) (what : Seen) (rs : List Record) → Runs f events rs f' → Happens f' event what f''
    → Runs f (events ++ event ∷ []) (rs ++ records_of event what (length f'.memory.entries)) f''
runs-next f f' f'' [] event what rs r h =
    let same : f' ≡ f = r.1 in
    let more = records_of event what (length f.memory.entries) in
    let begins : Happens f event what f'' = subst (λ (g : Fabric). Happens g event what f'') same h in (
      what,
      f'',
      [],
      begins,
      (refl, refl),
      ap (λ (xs : List Record). xs ++ records_of event what (length f'.memory.entries)) r.0
          ∙ ap (λ (g : Fabric). records_of event what (length g.memory.entries)) same ∙ sym (append-nil more),
    )
runs-next f f' f'' (first ∷ events) event what rs r h =
    let later = r.2 in
    let last = records_of event what (length f'.memory.entries) in
    let front = records_of first r.0 (length f.memory.entries) in (
      r.0,
      r.1,
      later ++ last,
      r.3,
      runs-next r.1 f' f'' events event what later r.4 h,
      ap (λ (xs : List Record). xs ++ last) r.5 ∙ append_assoc front later last,
    )

lines-append : (xs ys : List (List ℕ)) → lines_text (xs ++ ys) ≡ lines_text xs ++ lines_text ys
unfolding lines_text
lines-append [] ys = refl
lines-append (x ∷ xs) ys = rw (lines-append xs ys) (sym (append_assoc x (10 ∷ lines_text xs) (lines_text ys)))

lines-one : (x : List ℕ) → lines_text (x ∷ []) ≡ x ++ 10 ∷ []
unfolding lines_text
lines-one x = refl

text-next : (c : Config) (events : List Event) (event : Event) → text_of c (events ++ event ∷ []) ≡ text_of c events ++ (event_line event ++ 10 ∷ [])
text-next c events event =
    ap (λ (ls : List (List ℕ)). lines_text (fabric_line c ∷ ls)) (map-append event_line events (event ∷ []))
    ∙ lines-append (fabric_line c ∷ map event_line events) (event_line event ∷ [])
    ∙ ap (λ (t : List ℕ). text_of c events ++ t) (lines-one (event_line event))

pub script-next : (s : Storm) (n m : ℕ) (text text' : List ℕ) (f f' : Fabric) (c c' : ChooserView) (event : Event) (u : IsUnderWay s n text f c) → m ≡ n + 1 → IsChosen f event f'
    → IsAfter s.lose s.corrupt (u.script.events ++ event ∷ []) c'.arrived → text' ≡ text ++ (event_line event ++ 10 ∷ []) → IsUnderWay s m text' f' c'
script-next s n m text text' f f' c c' event u count chosen counted now =
    let h = u.script.happened in
    let events = u.script.events in
    record {
      script = record {
        events = u.script.events ++ event ∷ [];
        number = let e = u.script.number in omega (arith, length-append events (event ∷ []), e, count);
        happened = record {
          new = h.new;
          is_new = h.is_new;
          records = h.records ++ records_of event chosen.what (length f.memory.entries);
          run = runs-next h.new f f' events event chosen.what h.records h.run chosen.happened;
          spelled = All-append IsSpelledEvent events (event ∷ []) h.spelled (All-cons IsSpelledEvent event [] chosen.spelled (All-nil IsSpelledEvent));
        };
        says = now ∙ ap (λ (t : List ℕ). t ++ (event_line event ++ 10 ∷ [])) u.script.says ∙ sym (text-next (config_of s) events event);
      };
      counted = counted;
    }

-- ---- the first line

pub script-new : (s : Storm) (config : Config) (text none : List ℕ) (f : Fabric) (c : ChooserView) → config ≡ config_of s → IsNewWith config f → IsAfter s.lose s.corrupt [] c.arrived → none ≡ []
    → text ≡ none ++ (fabric_line config ++ 10 ∷ []) → IsUnderWay s 0 text f c
script-new s config text none f c is new counted empty now = record {
  script = record {
    events = [];
    number = refl;
    happened = record { new = f; is_new = subst (λ (x : Config). IsNewWith x f) is new; records = []; run = (refl, refl); spelled = All-nil IsSpelledEvent };
    says = now ∙ ap (λ (t : List ℕ). t ++ (fabric_line config ++ 10 ∷ [])) empty ∙ ap (λ (x : Config). fabric_line x ++ 10 ∷ []) is ∙ sym (lines-one (fabric_line (config_of s)));
  };
  counted = counted;
}

-- ---- beginnings

pub begins-all : (s : Storm) (n most : ℕ) (text : List ℕ) (f : Fabric) (c : ChooserView) → n ≤ most → IsUnderWay s n text f c → BeginsScript s most text
begins-all s n most text f c few u = record {
  count = n;
  few = few;
  text = text;
  fabric = f;
  script = u.script;
  fated = u.counted.fated;
  begins = ([], sym (append-nil text));
}

pub begins-more : (s : Storm) (most more : ℕ) (done : List ℕ) → most ≤ more → BeginsScript s most done → BeginsScript s more done
begins-more s most more done le b = record {
  count = b.count;
  few = let few = b.few in omega arith;
  text = b.text;
  fabric = b.fabric;
  script = b.script;
  fated = b.fated;
  begins = b.begins;
}

regroup : (x y z w : List ℕ) → (x ++ (y ++ z)) ++ w ≡ (x ++ y) ++ (z ++ w)
regroup x y z w = simp append_assoc

pub begins-part : (s : Storm) (most : ℕ) (written done pending : List ℕ) → IsBeginning done pending → BeginsScript s most (written ++ pending) → BeginsScript s most (written ++ done)
begins-part s most written done pending a b = record {
  count = b.count;
  few = b.few;
  text = b.text;
  fabric = b.fabric;
  script = b.script;
  fated = b.fated;
  begins = (a.0 ++ b.begins.0, b.begins.1 ∙ ap (λ (t : List ℕ). (written ++ t) ++ b.begins.0) a.1 ∙ regroup written done a.0 b.begins.0);
}

-- ---- results

pub on_err : {T E P : Type 0} (r : Result T E) → P → OnErr r P
on_err (Ok x) p = tt
on_err (Err e) p = p

pub either : {T E P Q X : Type 0} (r : Result T E) → OnOk r P → OnErr r Q → (P → X) → (Q → X) → X
either (Ok x) p q f g = f p
either (Err e) p q f g = g q

-- ---- known bytes

pub Appends-none : (u : Option (List ℕ)) → Appends u u []
Appends-none None = tt
Appends-none (Some xs) = sym (append-nil xs)

pub Appends-then : (u v w : Option (List ℕ)) (a b : List ℕ) → Appends u v a → Appends v w b → Appends u w (a ++ b)
Appends-then None v w a b x y = tt
Appends-then (Some xs) None w a b x y = absurd x
Appends-then (Some xs) (Some ys) None a b x y = y
Appends-then (Some xs) (Some ys) (Some zs) a b x y = y ∙ ap (λ (t : List ℕ). t ++ b) x ∙ append_assoc xs a b

-- ---- one script, counted and written otherwise

pub script-same : (s : Storm) (n m : ℕ) (text text' : List ℕ) (f : Fabric) (c : ChooserView) → IsUnderWay s n text f c → m ≡ n → text' ≡ text → IsUnderWay s m text' f c
script-same s n m text text' f c u count now = record {
  script = record { events = u.script.events; number = u.script.number ∙ sym count; happened = u.script.happened; says = now ∙ u.script.says };
  counted = u.counted;
}
