-- Words ask for one request at most.
use Rattle.std.proofs.Common.{◌≡◌, ◌∙◌, ℕ, Bool, true, false, List, refl, sym, ap, arith, codes, Option, Some, None, IfNone}
use Rattle.std.specs.Prelude.{bytes_eq}
use Rattle.std.proofs.lemmas.Slice.Eq.{bytes_eq-Decides}
use Rattle.clap.specs.Words.{Row, Text, first_of}
use Rattle.parameters.specs.declared.counting.Counting.{Counting}
use Rattle.parameters.specs.declared.storm.Storm.{Storm}
use Rattle.seq_memory.specs.Limits.{Extent, IsBlock}
use Rattle.cli_words.specs.declared.words.Request.{Request}
use Rattle.cli_words.specs.declared.outputs.SearchOutput.{SearchOutput}
use Rattle.cli_words.specs.declared.outputs.SearchOutput.TheVariants as outputs
use Rattle.cli_words.specs.declared.words.Request.TheVariants.{Tlp, Endpoint, Linked, Decode, Encode, Check, Search, Draw, Upgrade, Step, Chart, Generate, Sweep, Run}
use Rattle.cli_options.specs.Values.{IsAmong, multiples, WritesBase, WritesNumber, WritesGiven, WritesOptional, WritesFlag}
use Rattle.fabric_steps.specs.declared.event.LaneName.{LaneName}
use Rattle.log_pieces.specs.declared.Granularity.{Granularity}
use Rattle.search_engine.specs.declared.options.TheConstants.{DEFAULT_WORK}
use Rattle.config_core.specs.SetupView.{SetupView}
use Rattle.flow_control.specs.declared.limits.LaneCredits.{LaneCredits}
use Rattle.cli_values.specs.Links.{WritesCredits}
use Rattle.cli_values.specs.Endpoints.{WritesId, WritesSize}
use Rattle.cli_values.specs.Granularities.{WritesGranularity}
use Rattle.cli_values.specs.Lanes.{WritesLane}
use Rattle.cli_values.specs.Seeds.{first_digits, last_digits, WritesSeeds}
use Rattle.cli_words.specs.Options.{Asks, WritesOutput}

pub if_none : {T P : Type 0} (o : Option T) → P → IfNone o P
if_none None p = p
if_none (Some x) p = tt

pub same_base : (t : Option Text) (a b : ℕ) → WritesBase t a → WritesBase t b → a ≡ b
same_base None a b h k = h ∙ sym k
same_base (Some t) a b h k = h.2 ∙ sym k.2

pub same_number : (default : ℕ) (t : Option Text) (a b : ℕ) → WritesNumber default t a → WritesNumber default t b → a ≡ b
same_number default None a b h k = h ∙ sym k
same_number default (Some t) a b h k = h.1 ∙ sym k.1

pub same_given : (t : Option Text) (a b : ℕ) → WritesGiven t a → WritesGiven t b → a ≡ b
same_given None a b h k = absurd h
same_given (Some t) a b h k = h.1 ∙ sym k.1

pub same_optional : (t : Option Text) (a b : Option ℕ) → WritesOptional t a → WritesOptional t b → a ≡ b
same_optional t None None h k = refl
same_optional (Some t) None (Some b) h k = cc
same_optional None None (Some b) h k = absurd k
same_optional (Some t) (Some a) None h k = cc
same_optional None (Some a) None h k = absurd h
same_optional t (Some a) (Some b) h k = ap Some (same_given t a b h k)

-- a multiple of 64 from 64 to 128
pub block_among : (n : ℕ) → IsAmong (multiples 64 64 128) n → IsBlock n
block_among n a = grind (arith, a.least, a.most, a.multiple)

pub same_extent : (x y : Extent) → x.base ≡ y.base → x.size ≡ y.size → x.block ≡ y.block → x ≡ y
same_extent x y a b e j = record { base = a j; size = b j; block = e j }

pub same_counting : (c d : Counting) → c.requesters ≡ d.requesters → c.each ≡ d.each → c.lose ≡ d.lose → c.corrupt ≡ d.corrupt → c.turns ≡ d.turns → c.workers ≡ d.workers → c ≡ d
same_counting c d a b e f g h j = record { requesters = a j; each = b j; lose = e j; corrupt = f j; turns = g j; workers = h j }

pub same_storm : (s t : Storm) → s.seed ≡ t.seed → s.events ≡ t.events → s.requesters ≡ t.requesters → s.lose ≡ t.lose → s.corrupt ≡ t.corrupt → s.block ≡ t.block → s ≡ t
same_storm s t a b e f g h j = record { seed = a j; events = b j; requesters = e j; lose = f j; corrupt = g j; block = h j }

-- the name of the subcommand
abbrev pub name_of : Request → Text
name_of (Tlp x) = codes "tlp"
name_of (Endpoint s is_traced) = codes "endpoint"
name_of (Linked s is_traced ours has_crc) = codes "endpoint"
name_of Decode = codes "decode"
name_of Encode = codes "encode"
name_of (Check is_clocked) = codes "check"
name_of (Search limit work size output is_told) = codes "search"
name_of (Draw from to) = codes "draw"
name_of Upgrade = codes "upgrade"
name_of (Step is_traced keeps_going echoes) = codes "step"
name_of (Chart lane from to has_all has_levels) = codes "chart"
name_of (Generate storm) = codes "generate"
name_of (Sweep storm last is_clocked keeps_going workers) = codes "sweep"
name_of (Run counting is_told) = codes "run"

pub asks_name : (p : Text × List Row) (r : Request) → Asks (Some p) r → p.0 ≡ name_of r
asks_name p (Tlp x) a = a.0
asks_name p (Endpoint s is_traced) a = a.0
asks_name p (Linked s is_traced ours has_crc) a = a.0
asks_name p Decode a = a
asks_name p Encode a = a
asks_name p (Check is_clocked) a = a.0
asks_name p (Search limit work size output is_told) a = a.0
asks_name p (Draw from to) a = a.0
asks_name p Upgrade a = a
asks_name p (Step is_traced keeps_going echoes) a = a.0
asks_name p (Chart lane from to has_all has_levels) a = a.0
asks_name p (Generate storm) a = a.0
asks_name p (Sweep storm last is_clocked keeps_going workers) a = a.0
asks_name p (Run counting is_told) a = a.0

pub differ : (x y : Text) → bytes_eq x y ≡ false → x ≡ y → ⊥
differ x y other e = let same = (bytes_eq-Decides x y).1 e in false_true (sym other ∙ same)
  where
    false_true : false ≡ true → ⊥
    false_true e = cc

same_flag : (t : Option Text) (a b : Bool) → WritesFlag t a → WritesFlag t b → a ≡ b
same_flag None a b h k = h ∙ sym k
same_flag (Some t) a b h k = h ∙ sym k

pub true_or_false : (t : Option Text) → WritesFlag t true → WritesFlag t false → ⊥
true_or_false t h k = let e : true ≡ false = same_flag t true false h k in absurd (cc)

-- ---- what a search writes

cored : SearchOutput → Bool
cored outputs.Answer = false
cored outputs.Core = true
cored outputs.Picture = false

drawn : SearchOutput → Bool
drawn outputs.Answer = false
drawn outputs.Core = false
drawn outputs.Picture = true

core_flag : (rows : List Row) (o : SearchOutput) → WritesOutput rows o → WritesFlag (first_of (codes "core") rows) (cored o)
unfolding cored
core_flag rows outputs.Answer h = h.0
core_flag rows outputs.Core h = h.0
core_flag rows outputs.Picture h = h.0

draw_flag : (rows : List Row) (o : SearchOutput) → WritesOutput rows o → WritesFlag (first_of (codes "draw") rows) (drawn o)
unfolding drawn
draw_flag rows outputs.Answer h = h.1
draw_flag rows outputs.Core h = h.1
draw_flag rows outputs.Picture h = h.1

by_flags : (a b : SearchOutput) → cored a ≡ cored b → drawn a ≡ drawn b → a ≡ b
unfolding cored drawn
by_flags outputs.Answer outputs.Answer c d = refl
by_flags outputs.Answer outputs.Core c d = absurd (cc)
by_flags outputs.Answer outputs.Picture c d = absurd (cc)
by_flags outputs.Core outputs.Answer c d = absurd (cc)
by_flags outputs.Core outputs.Core c d = refl
by_flags outputs.Core outputs.Picture c d = absurd (cc)
by_flags outputs.Picture outputs.Answer c d = absurd (cc)
by_flags outputs.Picture outputs.Core c d = absurd (cc)
by_flags outputs.Picture outputs.Picture c d = refl

same_output : (rows : List Row) (a b : SearchOutput) → WritesOutput rows a → WritesOutput rows b → a ≡ b
same_output rows a b h k = by_flags a b (same_flag _ (cored a) (cored b) (core_flag rows a h) (core_flag rows b k)) (same_flag _ (drawn a) (drawn b) (draw_flag rows a h) (draw_flag rows b k))

-- no output is of both flags
pub not_both : (rows : List Row) (o : SearchOutput) → WritesOutput rows o → WritesFlag (first_of (codes "core") rows) true → WritesFlag (first_of (codes "draw") rows) true → ⊥
not_both rows outputs.Answer h c d = true_or_false _ c h.0
not_both rows outputs.Core h c d = true_or_false _ d h.1
not_both rows outputs.Picture h c d = true_or_false _ c h.0

same_credits : (t : Option Text) (a b : LaneCredits) → WritesCredits t a → WritesCredits t b → a ≡ b
same_credits None a b h k = h ∙ sym k
same_credits (Some t) a b h k = same_Some a b (sym h ∙ k)
  where
    same_Some : (a b : LaneCredits) → Some a ≡ Some b → a ≡ b
    same_Some a b e = cc

same_lane : (t : Option Text) (a b : Option LaneName) → WritesLane t a → WritesLane t b → a ≡ b
same_lane None a b h k = h ∙ sym k
same_lane (Some t) a b h k = h.2 ∙ sym h.1 ∙ k.1 ∙ sym k.2

same_granularity : (t : Option Text) (a b : Granularity) → WritesGranularity t a → WritesGranularity t b → a ≡ b
same_granularity None a b h k = h ∙ sym k
same_granularity (Some t) a b h k = same_Some a b (sym h ∙ k)
  where
    same_Some : (a b : Granularity) → Some a ≡ Some b → a ≡ b
    same_Some a b e = cc

same_size : (t : Option Text) (a b : ℕ) → WritesSize t a → WritesSize t b → a ≡ b
same_size None a b h k = h ∙ sym k
same_size (Some t) a b h k = same_Some a b (sym h ∙ k)
  where
    same_Some : (a b : ℕ) → Some a ≡ Some b → a ≡ b
    same_Some a b e = cc

same_id : (t : Option Text) (a b : ℕ × ℕ) → WritesId t a → WritesId t b → a ≡ b
same_id None a b h k = h ∙ sym k
same_id (Some t) a b h k = same_Some a b (sym h ∙ k)
  where
    same_Some : (a b : ℕ × ℕ) → Some a ≡ Some b → a ≡ b
    same_Some a b e = cc

same_seeds : (t : Option Text) (a b : ℕ × ℕ) → WritesSeeds t a → WritesSeeds t b → (a.0 ≡ b.0) × (a.1 ≡ b.1)
same_seeds None a b h k = absurd h
same_seeds (Some t) a b h k = (same_given (Some (first_digits t)) a.0 b.0 h.first_read.0 k.first_read.0, same_given (last_digits t) a.1 b.1 h.last_read.0 k.last_read.0)

same_setup : (s t : SetupView) → s.size ≡ t.size → ◌≡◌ {A = ℕ × ℕ} (s.vendor, s.device) (t.vendor, t.device) → s ≡ t
same_setup s t e f j = record { size = e j; vendor = (f j).0; device = (f j).1 }

-- words ask for one thing
pub asks_one : (o : Option (Text × List Row)) (r s : Request) → Asks o r → Asks o s → r ≡ s
asks_one None r s a b = absurd a
asks_one (Some p) (Tlp x) (Tlp y) a b =
    let e = same_base _ x.base y.base a.1.base_read b.1.base_read in
    let f = same_number 4096 _ x.size y.size a.1.size_read b.1.size_read in
    let g = same_number 64 _ x.block y.block a.1.block_read b.1.block_read in
    ap Tlp (same_extent x y e f g)
asks_one (Some p) (Endpoint s t) (Endpoint s' u) a b =
    let x = a.1 in
    let y = b.1 in
    ap (λ (z : SetupView). Endpoint z t) (same_setup s s' (same_size _ s.size s'.size x.size_read y.size_read) (same_id _ (s.vendor, s.device) (s'.vendor, s'.device) x.id_read y.id_read))
    ∙ ap (λ (z : Bool). Endpoint s' z) (same_flag _ t u a.2 b.2)
asks_one (Some p) (Linked s t c e) (Linked s' u d f) a b =
    let x = a.1 in
    let y = b.1 in
    ap (λ (z : SetupView). Linked z t c e) (same_setup s s' (same_size _ s.size s'.size x.size_read y.size_read) (same_id _ (s.vendor, s.device) (s'.vendor, s'.device) x.id_read y.id_read))
    ∙ ap (λ (z : Bool). Linked s' z c e) (same_flag _ t u a.2 b.2)
    ∙ ap (λ (z : LaneCredits). Linked s' u z e) (same_credits _ c d a.3.credits_read b.3.credits_read)
    ∙ ap (λ (z : Bool). Linked s' u d z) (same_flag _ e f a.3.crc_read b.3.crc_read)
asks_one (Some p) (Endpoint s t) (Linked s' u d f) a b = absurd (true_or_false _ b.3.link_read a.3.link_read)
asks_one (Some p) (Linked s t c e) (Endpoint s' u) a b = absurd (true_or_false _ a.3.link_read b.3.link_read)
asks_one (Some p) Decode Decode a b = refl
asks_one (Some p) Encode Encode a b = refl
asks_one (Some p) (Check t) (Check u) a b = ap Check (same_flag _ t u a.1 b.1)
asks_one (Some p) (Search limit work g k t) (Search limit' work' g' l u) a b =
    ap (λ (n : ℕ). Search n work g k t) (same_number 1000000 _ limit limit' a.1.limit_read b.1.limit_read)
    ∙ ap (λ (n : ℕ). Search limit' n g k t) (same_number DEFAULT_WORK _ work work' a.1.work_read b.1.work_read)
    ∙ ap (λ (size : Granularity). Search limit' work' size k t) (same_granularity _ g g' a.1.granularity_read b.1.granularity_read)
    ∙ ap (λ (z : SearchOutput). Search limit' work' g' z t) (same_output p.1 k l a.2 b.2) ∙ ap (Search limit' work' g' l) (same_flag _ t u a.3 b.3)
asks_one (Some p) (Draw from to) (Draw from' to') a b =
    let e = same_number 0 _ from from' a.1.from_read b.1.from_read in
    let f = same_number 18446744073709551615 _ to to' a.1.to_read b.1.to_read in
    ap (λ (x : ℕ). Draw x to) e ∙ ap (λ (x : ℕ). Draw from' x) f
asks_one (Some p) Upgrade Upgrade a b = refl
asks_one (Some p) (Step t k e) (Step u l f) a b =
    let x = a.1 in
    let y = b.1 in
    ap (λ (z : Bool). Step z k e) (same_flag _ t u x.trace_read y.trace_read) ∙ ap (λ (z : Bool). Step u z e) (same_flag _ k l x.keep_going_read y.keep_going_read)
    ∙ ap (λ (z : Bool). Step u l z) (same_flag _ e f x.echo_read y.echo_read)
asks_one (Some p) (Chart lane from to t v) (Chart lane' from' to' u w) a b =
    let e = same_lane _ lane lane' a.1.lane_read b.1.lane_read in
    let f = same_number 1 _ from from' a.1.from_read b.1.from_read in
    let g = same_number 18446744073709551615 _ to to' a.1.to_read b.1.to_read in
    ap (λ (x : Option LaneName). Chart x from to t v) e ∙ ap (λ (x : ℕ). Chart lane' x to t v) f ∙ ap (λ (x : ℕ). Chart lane' from' x t v) g
    ∙ ap (λ (x : Bool). Chart lane' from' to' x v) (same_flag _ t u a.1.all_read b.1.all_read) ∙ ap (Chart lane' from' to' u) (same_flag _ v w a.1.levels_read b.1.levels_read)
asks_one (Some p) (Generate s) (Generate t) a b =
    let x = a.1 in
    let y = b.1 in
    ap Generate (same_storm s t (same_given _ _ _ x.seed_read y.seed_read) (same_given _ _ _ x.events_read y.events_read) (same_number 3 _ _ _ x.requesters_read y.requesters_read)
    (same_number 0 _ _ _ x.lose_read y.lose_read) (same_number 0 _ _ _ x.corrupt_read y.corrupt_read) (same_number 64 _ _ _ x.block_read y.block_read))
asks_one (Some p) (Sweep s n c k w) (Sweep t m d l v) a b =
    let x = a.1 in
    let y = b.1 in
    let seeds = same_seeds _ (s.seed, n) (t.seed, m) x.seeds_read y.seeds_read in
    let same = same_storm s t seeds.0 (same_given _ _ _ x.events_read y.events_read) (same_number 3 _ _ _ x.requesters_read y.requesters_read)
    (same_number 0 _ _ _ x.lose_read y.lose_read) (same_number 0 _ _ _ x.corrupt_read y.corrupt_read) (same_number 64 _ _ _ x.block_read y.block_read) in
    ap (λ (z : Storm). Sweep z n c k w) same ∙ ap (λ (z : ℕ). Sweep t z c k w) seeds.1 ∙ ap (λ (z : Bool). Sweep t m z k w) (same_flag _ c d a.2 b.2)
    ∙ ap (λ (z : Bool). Sweep t m d z w) (same_flag _ k l a.3 b.3) ∙ ap (λ (z : Option ℕ). Sweep t m d l z) (same_optional _ w v x.workers_read y.workers_read)
asks_one (Some p) (Run c t) (Run d u) a b =
    let x = a.1 in
    let y = b.1 in
    let same = same_counting c d (same_given _ _ _ x.requesters_read y.requesters_read) (same_given _ _ _ x.each_read y.each_read) (same_number 0 _ _ _ x.lose_read y.lose_read)
    (same_number 0 _ _ _ x.corrupt_read y.corrupt_read) (same_number 50000000 _ _ _ x.turns_read y.turns_read) (same_optional _ _ _ x.workers_read y.workers_read) in
    ap (λ (k : Counting). Run k t) same ∙ ap (Run d) (same_flag _ t u a.2 b.2)
asks_one (Some p) r s a b = absurd (differ (name_of r) (name_of s) refl (sym (asks_name p r a) ∙ asks_name p s b))
