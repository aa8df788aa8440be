-- The own lines of events and of a fabric are read back.
use Rattle.std.proofs.Common.{◌≡◌, ℕ, ◌+◌, ◌-◌, ◌^◌, ◌<◌, ◌≤◌, Bool, true, false, List, [], ◌∷◌, ◌++◌, length, refl, ap, ◌∙◌, length-append, arith, Some, inl, inr}
use Rattle.std.specs.Prelude.{◌&&◌, nat_le, codes, bytes_eq, ◌⊎◌}
use Rattle.std.specs.Fmt.{decimal}
use Rattle.std.proofs.lemmas.Fmt.{decimal_digit}
use Rattle.std.proofs.lemmas.Bool.{and_parts, cases_Bool}
use Rattle.std.proofs.lemmas.Slice.Eq.{bytes_eq-Decides}
use Rattle.std.proofs.lemmas.Bool.Decides.{nat_tests}
use Rattle.std.proofs.lemmas.List.Elements.{All-nil, All-cons, All-append}
use Rattle.tlp_core.specs.Ops.{Op}
use Rattle.flow_control.specs.declared.limits.LaneCredits.{LaneCredits}
use Rattle.lane_core.specs.declared.packet.Fate.{Fate}
use Rattle.lane_core.specs.declared.packet.Fate.TheVariants as fates
use Rattle.lane_core.specs.declared.packet.DllpKind.{DllpKind}
use Rattle.lane_core.specs.declared.packet.DllpKind.TheVariants as kinds
use Rattle.dllp_core.specs.declared.packet.Class.TheVariants as classes
use Rattle.fabric_core.specs.declared.config.Config.{Config}
use Rattle.fabric_core.specs.Config.{IsConfig, AreCredits}
use Rattle.fabric_steps.specs.declared.event.LaneName.{LaneName}
use Rattle.fabric_steps.specs.declared.event.LaneName.TheVariants as lanes
use Rattle.fabric_steps.specs.Event.{Event}
use Rattle.fabric_steps.specs.declared.event.EventOf.TheVariants as events
use Rattle.operation_text.specs.Words.{words}
use Rattle.operation_text.specs.Numbers.{numeral}
use Rattle.operation_text.specs.Operations.{op_spelled}
use Rattle.operation_text.specs.Texts.{hexadecimal, op_text, IsPrinted, IsPrintedChar}
use Rattle.script_text.specs.declared.line.Line.TheVariants as lines
use Rattle.script_text.specs.Forms as forms
use Rattle.script_text.specs.LineTexts.{lane_text, fate_text, kind_text, event_line, credits_text, fabric_line}
use Rattle.script_text.specs.Spelled.{IsSpelledLane, IsSpelledEvent, IsLineOf}

-- what is known of the texts of numbers and operations
pub record Laws : Type 0 where
  pub decimal_back : (most n : ℕ) → n ≤ most → n < 2 ^ 64 → numeral 10 most (decimal n) ≡ Some n
  pub hexadecimal_back : (most n : ℕ) → n ≤ most → n < 2 ^ 64 → numeral 16 most (hexadecimal n) ≡ Some n
  pub decimal_word : (n : ℕ) (line : List ℕ) → words (decimal n ++ 32 ∷ line) ≡ decimal n ∷ words line
  pub decimal_last : (n : ℕ) → words (decimal n) ≡ decimal n ∷ []
  pub hexadecimal_word : (n : ℕ) (line : List ℕ) → words (hexadecimal n ++ 32 ∷ line) ≡ hexadecimal n ∷ words line
  pub printed : (n : ℕ) → IsPrinted (decimal n) × IsPrinted (hexadecimal n)
  pub short : (n : ℕ) → n < 2 ^ 64 → (length (decimal n) ≤ 20) × (length (hexadecimal n) ≤ 16)
  pub op_back : (ws : List (List ℕ)) (op : Op) → op_spelled ws ≡ Some op → op_spelled (words (op_text op)) ≡ Some op
  pub op_printed : (ws : List (List ℕ)) (op : Op) → op_spelled ws ≡ Some op → IsPrinted (op_text op)
  pub op_short : (ws : List (List ℕ)) (op : Op) → op_spelled ws ≡ Some op → length (op_text op) ≤ 320

-- ---- printed texts

printed-field : (w line : List ℕ) → IsPrinted w → IsPrinted line → IsPrinted (w ++ 32 ∷ line)
printed-field w line hw hl = All-append IsPrintedChar w (32 ∷ line) hw (All-cons IsPrintedChar 32 line (omega arith, omega arith) hl)

longer : (w line : List ℕ) → length (w ++ 32 ∷ line) ≡ length w + 1 + length line
longer w line = omega (arith, length-append w (32 ∷ line))

are_printed : List ℕ → Bool
are_printed [] = true
are_printed (c ∷ cs) = (nat_le 32 c && nat_le c 126) && are_printed cs

printed-is : (cs : List ℕ) → are_printed cs ≡ true → IsPrinted cs
unfolding are_printed
printed-is [] h = All-nil IsPrintedChar
printed-is (c ∷ cs) h =
    let parts = and_parts (nat_le 32 c && nat_le c 126) (are_printed cs) h in
    let char = and_parts (nat_le 32 c) (nat_le c 126) parts.0 in
    All-cons IsPrintedChar c cs (le-of 32 c char.0, le-of c 126 char.1) (printed-is cs parts.1)
  where
    le-of : (a b : ℕ) → nat_le a b ≡ true → a ≤ b
    le-of a b t = grind (arith, nat_tests)

-- ---- lanes

port-digit : (port : ℕ) → 1 ≤ port → port ≤ 7 → forms.port_digit ((48 + port) ∷ []) ≡ Some port
port-digit port low high =
    let least : nat_le 49 (48 + port) ≡ true = grind (arith, nat_tests) in
    let most : nat_le (48 + port) 55 ≡ true = grind (arith, nat_tests) in
    let same : (48 + port) - 48 ≡ port = omega arith in
    rw (least, most, same) refl

-- the word of a lane, with what is behind it
record IsWordOf (lane : LaneName) : Type 0 where
  printed : IsPrinted (lane_text lane)
  short : length (lane_text lane) ≤ 5
  last : words (lane_text lane) ≡ lane_text lane ∷ []
  more : (line : List ℕ) → words (lane_text lane ++ 32 ∷ line) ≡ lane_text lane ∷ words line
  back : forms.lane (lane_text lane) ≡ Some lane

-- ---- fates and kinds

record IsFateWord (f : Fate) : Type 0 where
  printed : IsPrinted (fate_text f)
  short : length (fate_text f) ≤ 6
  last : words (fate_text f) ≡ fate_text f ∷ []
  back : forms.fate (fate_text f) ≡ Some f

fate-word : (f : Fate) → IsFateWord f
unfolding are_printed
fate-word fates.Good = record { printed = printed-is (codes "good") refl; short = omega arith; last = refl; back = refl }
fate-word fates.Failed = record { printed = printed-is (codes "failed") refl; short = omega arith; last = refl; back = refl }
fate-word fates.Lost = record { printed = printed-is (codes "lost") refl; short = omega arith; last = refl; back = refl }

record IsKindWord (k : DllpKind) : Type 0 where
  printed : IsPrinted (kind_text k)
  short : length (kind_text k) ≤ 3
  last : words (kind_text k) ≡ kind_text k ∷ []
  back : forms.kind (kind_text k) ≡ Some k

kind-word : (k : DllpKind) → IsKindWord k
unfolding are_printed
kind-word kinds.Answer = record { printed = printed-is (codes "ack") refl; short = omega arith; last = refl; back = refl }
kind-word (kinds.Update classes.Posted) = record { printed = printed-is (codes "p") refl; short = omega arith; last = refl; back = refl }
kind-word (kinds.Update classes.NonPosted) = record { printed = printed-is (codes "np") refl; short = omega arith; last = refl; back = refl }
kind-word (kinds.Update classes.Completion) = record { printed = printed-is (codes "cpl") refl; short = omega arith; last = refl; back = refl }

-- a number is no word of letters
no-block : (most n : ℕ) → numeral 10 most (decimal n) ≡ Some n → bytes_eq (decimal n) (codes "block") ≡ false
no-block most n back = elim (cases_Bool (bytes_eq (decimal n) (codes "block"))) [
  | inl hit ↦
      let same : decimal n ≡ codes "block" = (bytes_eq-Decides (decimal n) (codes "block")).0 hit in
      absurd (let k = rw same at back in cc k)
  | inr miss ↦ miss
]

module _ (law : Laws) where
  up-word : (port : ℕ) → 1 ≤ port → port ≤ 7 → IsWordOf (lanes.Up port)
  unfolding are_printed
  up-word port low high = record {
    printed = All-append IsPrintedChar (codes "up") (decimal port) (printed-is (codes "up") refl) (law.printed port).0;
    short = rw (decimal_digit port (omega (arith, high))) (omega arith);
    last = rw (law.decimal_last port) refl;
    more = λ line. rw (law.decimal_word port line) refl;
    back = rw (decimal_digit port (omega (arith, high)), port-digit port low high) refl;
  }

  down-word : (port : ℕ) → 1 ≤ port → port ≤ 7 → IsWordOf (lanes.Down port)
  unfolding are_printed
  down-word port low high = record {
    printed = All-append IsPrintedChar (codes "down") (decimal port) (printed-is (codes "down") refl) (law.printed port).0;
    short = rw (decimal_digit port (omega (arith, high))) (omega arith);
    last = rw (law.decimal_last port) refl;
    more = λ line. rw (law.decimal_word port line) refl;
    back = rw (decimal_digit port (omega (arith, high)), port-digit port low high) refl;
  }

  lane-word : (lane : LaneName) → IsSpelledLane lane → IsWordOf lane
  unfolding are_printed
  lane-word (lanes.Up port) h = up-word port h.0 h.1
  lane-word (lanes.Down port) h = down-word port h.0 h.1
  lane-word lanes.Inward h = record { printed = printed-is (codes "in") refl; short = omega arith; last = refl; more = λ line. refl; back = refl }
  lane-word lanes.Outward h = record { printed = printed-is (codes "out") refl; short = omega arith; last = refl; more = λ line. refl; back = refl }

  -- ---- numbers

  octet-back : (n : ℕ) → n < 2 ^ 8 → forms.octet (decimal n) ≡ Some n
  octet-back n h = law.decimal_back 255 n (omega (arith, h)) (omega (arith, h))

  short-back : (n : ℕ) → n < 2 ^ 16 → forms.short (decimal n) ≡ Some n
  short-back n h = law.decimal_back 65535 n (omega (arith, h)) (omega (arith, h))

  count-back : (n : ℕ) → n < 2 ^ 64 → forms.count (decimal n) ≡ Some n
  count-back n h = law.decimal_back 18446744073709551615 n (omega (arith, h)) h

  -- ---- events

  -- a word, and the name of a lane
  pair-printed : (w : List ℕ) (lane : LaneName) → are_printed w ≡ true → IsWordOf lane → IsPrinted (w ++ 32 ∷ lane_text lane)
  unfolding are_printed
  pair-printed w lane h is = printed-field w (lane_text lane) (printed-is w h) is.printed

  submit-line : (port : ℕ) (op : Op) → IsSpelledEvent (events.Submit port op) → IsLineOf (event_line (events.Submit port op)) (lines.Event (events.Submit port op))
  unfolding are_printed
  submit-line port op h = record {
    printed = printed-field (codes "submit") _ (printed-is (codes "submit") refl) (printed-field (decimal port) (op_text op) (law.printed port).0 (law.op_printed h.1.0 op h.1.1));
    short = let a = (law.short port (omega (arith, h.0))).0 in let t = law.op_short h.1.0 op h.1.1 in omega (arith, a, t, longer (decimal port) (op_text op));
    kept = refl;
    says = rw (law.decimal_word port (op_text op), octet-back port h.0, law.op_back h.1.0 op h.1.1) refl;
  }

  transmit-line : (lane : LaneName) → IsWordOf lane → IsLineOf (event_line (events.Transmit lane)) (lines.Event (events.Transmit lane))
  unfolding are_printed
  transmit-line lane w = record { printed = pair-printed (codes "transmit") lane refl w; short = let s = w.short in omega (arith, s); kept = refl; says = rw (w.last, w.back) refl }

  timer-line : (lane : LaneName) → IsWordOf lane → IsLineOf (event_line (events.Timer lane)) (lines.Event (events.Timer lane))
  unfolding are_printed
  timer-line lane w = record { printed = pair-printed (codes "timer") lane refl w; short = let s = w.short in omega (arith, s); kept = refl; says = rw (w.last, w.back) refl }

  retrained-line : (lane : LaneName) → IsWordOf lane → IsLineOf (event_line (events.Retrained lane)) (lines.Event (events.Retrained lane))
  unfolding are_printed
  retrained-line lane w = record { printed = pair-printed (codes "retrained") lane refl w; short = let s = w.short in omega (arith, s); kept = refl; says = rw (w.last, w.back) refl }

  deliver-line : (lane : LaneName) (f : Fate) → IsWordOf lane → IsFateWord f → IsLineOf (event_line (events.Deliver lane f)) (lines.Event (events.Deliver lane f))
  unfolding are_printed
  deliver-line lane f w v = record {
    printed = printed-field (codes "deliver") _ (printed-is (codes "deliver") refl) (printed-field (lane_text lane) (fate_text f) w.printed v.printed);
    short = let s = w.short in let t = v.short in omega (arith, s, t, longer (lane_text lane) (fate_text f));
    kept = refl;
    says = rw (w.more (fate_text f), v.last, w.back, v.back) refl;
  }

  deliver_dllp-line : (lane : LaneName) (f : Fate) → IsWordOf lane → IsFateWord f → IsLineOf (event_line (events.DeliverDllp lane f)) (lines.Event (events.DeliverDllp lane f))
  unfolding are_printed
  deliver_dllp-line lane f w v = record {
    printed = printed-field (codes "deliver-dllp") _ (printed-is (codes "deliver-dllp") refl) (printed-field (lane_text lane) (fate_text f) w.printed v.printed);
    short = let s = w.short in let t = v.short in omega (arith, s, t, longer (lane_text lane) (fate_text f));
    kept = refl;
    says = rw (w.more (fate_text f), v.last, w.back, v.back) refl;
  }

  dllp-line : (lane : LaneName) (k : DllpKind) → IsWordOf lane → IsKindWord k → IsLineOf (event_line (events.SendDllp lane k)) (lines.Event (events.SendDllp lane k))
  unfolding are_printed
  dllp-line lane k w v = record {
    printed = printed-field (codes "dllp") _ (printed-is (codes "dllp") refl) (printed-field (lane_text lane) (kind_text k) w.printed v.printed);
    short = let s = w.short in let t = v.short in omega (arith, s, t, longer (lane_text lane) (kind_text k));
    kept = refl;
    says = rw (w.more (kind_text k), v.last, w.back, v.back) refl;
  }

  forward-line : (lane : LaneName) (place : ℕ) → IsWordOf lane → place < 2 ^ 64 → IsLineOf (event_line (events.Forward lane place)) (lines.Event (events.Forward lane place))
  unfolding are_printed
  forward-line lane place w h = record {
    printed = printed-field (codes "forward") _ (printed-is (codes "forward") refl) (printed-field (lane_text lane) (decimal place) w.printed (law.printed place).0);
    short = let s = w.short in let t = (law.short place h).0 in omega (arith, s, t, longer (lane_text lane) (decimal place));
    kept = refl;
    says = rw (w.more (decimal place), law.decimal_last place, w.back, count-back place h) refl;
  }

  serve-line : (place : ℕ) → place < 2 ^ 64 → IsLineOf (event_line (events.Serve place)) (lines.Event (events.Serve place))
  unfolding are_printed
  serve-line place h = record {
    printed = printed-field (codes "serve") (decimal place) (printed-is (codes "serve") refl) (law.printed place).0;
    short = let t = (law.short place h).0 in omega (arith, t);
    kept = refl;
    says = rw (law.decimal_last place, count-back place h) refl;
  }

  collect-line : (port : ℕ) → port < 2 ^ 8 → IsLineOf (event_line (events.Collect port)) (lines.Event (events.Collect port))
  unfolding are_printed
  collect-line port h = record {
    printed = printed-field (codes "collect") (decimal port) (printed-is (codes "collect") refl) (law.printed port).0;
    short = let t = (law.short port (omega (arith, h))).0 in omega (arith, t);
    kept = refl;
    says = rw (law.decimal_last port, octet-back port h) refl;
  }

  pub line-of-event : (event : Event) → IsSpelledEvent event → IsLineOf (event_line event) (lines.Event event)
  line-of-event (events.Submit port op) h = submit-line port op h
  line-of-event (events.Transmit lane) h = transmit-line lane (lane-word lane h)
  line-of-event (events.Deliver lane f) h = deliver-line lane f (lane-word lane h) (fate-word f)
  line-of-event (events.SendDllp lane k) h = dllp-line lane k (lane-word lane h) (kind-word k)
  line-of-event (events.DeliverDllp lane f) h = deliver_dllp-line lane f (lane-word lane h) (fate-word f)
  line-of-event (events.Timer lane) h = timer-line lane (lane-word lane h)
  line-of-event (events.Retrained lane) h = retrained-line lane (lane-word lane h)
  line-of-event (events.Forward lane place) h = forward-line lane place (lane-word lane h.0) h.1
  line-of-event (events.Serve place) h = serve-line place h
  line-of-event (events.Collect port) h = collect-line port h

  -- ---- the fabric

  record AreShort (c : LaneCredits) : Type 0 where
    ph : c.ph < 2 ^ 8
    pd : c.pd < 2 ^ 16
    nph : c.nph < 2 ^ 8
    npd : c.npd < 2 ^ 16
    cplh : c.cplh < 2 ^ 8
    cpld : c.cpld < 2 ^ 16

  credits-short : (c : LaneCredits) → AreCredits c → AreShort c
  credits-short c h = record {
    ph = let k = h.ph.1 in omega arith;
    pd = let k = h.pd.1 in omega arith;
    nph = let k = h.nph.1 in omega arith;
    npd = let k = h.npd.1 in omega arith;
    cplh = let k = h.cplh.1 in omega arith;
    cpld = let k = h.cpld.1 in omega arith;
  }

  credits-printed : (c : LaneCredits) → IsPrinted (credits_text c)
  credits-printed c =
      printed-field (decimal c.ph) _ (law.printed c.ph).0 (printed-field (decimal c.pd) _ (law.printed c.pd).0
      (printed-field (decimal c.nph) _ (law.printed c.nph).0 (printed-field (decimal c.npd) _ (law.printed c.npd).0
      (printed-field (decimal c.cplh) (decimal c.cpld) (law.printed c.cplh).0 (law.printed c.cpld).0))))

  number-length : (n : ℕ) → n < 2 ^ 16 → length (decimal n) ≤ 20
  number-length n h = (law.short n (omega (arith, h))).0

  credits-length : (c : LaneCredits) → AreShort c → length (credits_text c) ≤ 125
  credits-length c h =
      let a = number-length c.ph (let k = h.ph in omega arith) in
      let b = number-length c.pd h.pd in
      let d = number-length c.nph (let k = h.nph in omega arith) in
      let e = number-length c.npd h.npd in
      let f = number-length c.cplh (let k = h.cplh in omega arith) in
      let g = number-length c.cpld h.cpld in
      let last = longer (decimal c.cplh) (decimal c.cpld) in
      let fourth = longer (decimal c.npd) (decimal c.cplh ++ 32 ∷ decimal c.cpld) in
      let third = longer (decimal c.nph) (decimal c.npd ++ 32 ∷ (decimal c.cplh ++ 32 ∷ decimal c.cpld)) in
      let second = longer (decimal c.pd) (decimal c.nph ++ 32 ∷ (decimal c.npd ++ 32 ∷ (decimal c.cplh ++ 32 ∷ decimal c.cpld))) in
      omega (arith, a, b, d, e, f, g, last, fourth, third, second, longer (decimal c.ph) (decimal c.pd ++ 32 ∷ (decimal c.nph ++ 32 ∷ (decimal c.npd ++ 32 ∷ (decimal c.cplh ++ 32 ∷ decimal c.cpld)))))

  -- the words of the credits, with what is behind them
  append-field : (w line more : List ℕ) → (w ++ 32 ∷ line) ++ more ≡ w ++ 32 ∷ (line ++ more)
  append-field [] line more = refl
  append-field (c ∷ w) line more = ap (λ (t : List ℕ). c ∷ t) (append-field w line more)

  field-words : (n : ℕ) (line more : List ℕ) (ws : List (List ℕ)) → words (line ++ 32 ∷ more) ≡ ws → words ((decimal n ++ 32 ∷ line) ++ 32 ∷ more) ≡ decimal n ∷ ws
  field-words n line more ws h = ap words (append-field (decimal n) line (32 ∷ more)) ∙ law.decimal_word n (line ++ 32 ∷ more) ∙ ap (λ (r : List (List ℕ)). decimal n ∷ r) h

  credits-words : (c : LaneCredits) (more : List ℕ)
      → words (credits_text c ++ 32 ∷ more) ≡ decimal c.ph ∷ decimal c.pd ∷ decimal c.nph ∷ decimal c.npd ∷ decimal c.cplh ∷ decimal c.cpld ∷ words more
  credits-words c more =
      field-words c.ph _ more _ (field-words c.pd _ more _ (field-words c.nph _ more _ (field-words c.npd _ more _
      (field-words c.cplh (decimal c.cpld) more _ (law.decimal_word c.cpld more)))))

  credits-back : (c : LaneCredits) (ws : List (List ℕ)) → AreShort c
      → forms.credits_of (decimal c.ph ∷ decimal c.pd ∷ decimal c.nph ∷ decimal c.npd ∷ decimal c.cplh ∷ decimal c.cpld ∷ ws) ≡ Some (c, ws)
  credits-back c ws h =
      rw (
        no-block 255 c.ph (octet-back c.ph h.ph),
        octet-back c.ph h.ph,
        short-back c.pd h.pd,
        octet-back c.nph h.nph,
        short-back c.npd h.npd,
        octet-back c.cplh h.cplh,
        short-back c.cpld h.cpld,
      ) refl

  block-back : (block : ℕ) → block < 2 ^ 16 → forms.block_of (codes "block" ∷ decimal block ∷ []) ≡ Some block
  block-back block h = rw (short-back block h) refl

  block-short : (block : ℕ) → (block ≡ 64) ⊎ (block ≡ 128) → block < 2 ^ 16
  block-short block (inl e) = omega (arith, e)
  block-short block (inr e) = omega (arith, e)

  pub line-of-fabric : (c : Config) → IsConfig c → IsLineOf (fabric_line c) (lines.Fabric c)
  unfolding are_printed
  line-of-fabric c h =
      let few = h.requesters.1 in
      let size = h.size in
      let base = h.base.1 in
      let requesters : c.requesters < 2 ^ 8 = omega (arith, few) in
      let bytes : c.size < 2 ^ 64 = omega (arith, size.1) in
      let address : c.base < 2 ^ 64 = omega (arith, base, size.0) in
      let block = block-short c.block h.block in
      let credits = credits-short c.credits h.credits in
      let tail = codes "block" ++ 32 ∷ decimal c.block in
      let fourth = credits_text c.credits ++ 32 ∷ tail in
      let third = decimal c.size ++ 32 ∷ fourth in
      let second = hexadecimal c.base ++ 32 ∷ third in
      record {
        printed =
            printed-field (codes "fabric") _ (printed-is (codes "fabric") refl) (printed-field (decimal c.requesters) second (law.printed c.requesters).0
            (printed-field (hexadecimal c.base) third (law.printed c.base).1 (printed-field (decimal c.size) fourth (law.printed c.size).0
            (printed-field (credits_text c.credits) tail (credits-printed c.credits) (printed-field (codes "block") (decimal c.block) (printed-is (codes "block") refl) (law.printed c.block).0)))));
        short =
            let a = (law.short c.requesters (omega (arith, requesters))).0 in
            let b = (law.short c.base address).1 in
            let d = (law.short c.size bytes).0 in
            let e = credits-length c.credits credits in
            let f = number-length c.block block in
            omega (arith, a, b, d, e, f, longer (decimal c.requesters) second, longer (hexadecimal c.base) third, longer (decimal c.size) fourth, longer (credits_text c.credits) tail);
        kept = refl;
        says = rw (
          law.decimal_word c.requesters second,
          law.hexadecimal_word c.base third,
          law.decimal_word c.size fourth,
          credits-words c.credits tail,
          law.decimal_last c.block,
          octet-back c.requesters requesters,
          law.hexadecimal_back 18446744073709551615 c.base (omega (arith, address)) address,
          count-back c.size bytes,
          credits-back c.credits (codes "block" ∷ decimal c.block ∷ []) credits,
          block-back c.block block,
        ) refl;
      }
