-- What a picture shows of each request, and of which points.
use Rattle.std.specs.Prelude.{ℕ, ◌≡◌, ◌≤◌, ◌<◌, ◌+◌, ◌-◌, ◌⊎◌, List, [], ◌∷◌, ◌++◌, true, false, slice_get, Option, Some}
use Rattle.tlp_core.specs.Limits.{most_requesters}
use Rattle.tlp_core.specs.Ops.{Op}
use Rattle.tlp_core.specs.Operation.{is_posted}
use Rattle.seq_memory.specs.Entries.{Entry}
use Rattle.seq_memory.specs.Entries.{Reply}
use Rattle.history_words.specs.Records.{Record}
use Rattle.history_words.specs.declared.record.RecordOf.TheVariants as records
use Rattle.history_words.specs.declared.flaws.Flaw.{Flaw}
use Rattle.history_words.specs.Flaws.{place_of}
use Rattle.svg_text.specs.Shapes.{Shape}
use Rattle.history_bars.specs.declared.scale.Scale.{Scale}
use Rattle.history_bars.specs.declared.bars.Bar.{Bar}
use Rattle.history_bars.specs.declared.words.Request.{Request}
use Rattle.history_bars.specs.declared.marks.View.{View}
use Rattle.history_bars.specs.Said.{said_of}
use Rattle.history_bars.specs.Layout.{x_at, acted_in, answer_in, dot_at}
use Rattle.history_bars.specs.Bars.{bar_for, bar_shapes, dot_shapes, request_of}
use Rattle.history_picture.specs.declared.scale.Window.{Window}
use Rattle.history_picture.specs.declared.flaws.Finding.{Finding}
use Rattle.history_picture.specs.Points.{is_open, scale_of, flaw_point}
use Rattle.history_picture.specs.Picture.{drawn}

-- these shapes are among all of them, one after the other
pub record Has (all part : List Shape) : Type 0 where
  pub before : List Shape
  pub after : List Shape
  pub is : all ≡ before ++ (part ++ after)

-- a record is the submission of this operation as request k of requester i, when the history had n entries
abbrev pub IsSubmitted : List Record → ℕ → ℕ → Op → ℕ → Type 0
IsSubmitted rs i k op n = (p : ℕ) × (slice_get rs p ≡ Some (records.Sub i k op n))

-- what is known of that request
abbrev pub request_in : List Record → List Entry → ℕ → ℕ → ℕ → Request
request_in rs h i k n = request_of i (acted_in h i) (answer_in rs i) k n

-- the picture has a bar of that request, with its title, what was asked and answered, and its dot
abbrev pub HasBar : View → List Record → List Entry → Option Finding → Op → Request → Bar → Type 0
HasBar v rs h f op q bar = (top : ℕ) × Has (drawn v rs h f) (bar_shapes v rs op q (said_of v rs op q) bar top)

-- each request that was submitted has its bar, where part of it is within the window
abbrev pub EachRequestHasItsBar : Type 0
EachRequestHasItsBar = (v : View) (rs : List Record) (h : List Entry) (f : Option Finding) (i k n : ℕ) (op : Op) (bar : Bar)
    → 1 ≤ i → i ≤ most_requesters → IsSubmitted rs i k op n → bar_for v rs op (request_in rs h i k n) ≡ Some bar
    → HasBar v rs h f op (request_in rs h i k n) bar

-- the bar of an answered request goes from the n of its submission to that of its answer, if both are shown
abbrev pub BarsGoFromSubmissionToAnswer : Type 0
BarsGoFromSubmissionToAnswer = (v : View) (rs : List Record) (h : List Entry) (f : Option Finding) (i k n m a : ℕ) (op : Op) (reply : Reply)
    → 1 ≤ i → i ≤ most_requesters → is_posted op ≡ false → IsSubmitted rs i k op n
    → answer_in rs i k ≡ Some a → slice_get rs a ≡ Some (records.Ans i k reply m) → n < m → v.scale.from ≤ n → m ≤ v.scale.from + v.scale.span
    → HasBar v rs h f op (request_in rs h i k n) (record { start = n - v.scale.from; end = m - v.scale.from; is_open = false })

-- the dot of a request stands in the middle of its entry, if that is shown
abbrev pub DotsStandAtEntries : Type 0
DotsStandAtEntries = (s : Scale) (h : List Entry) (i k e top : ℕ) (words : List ℕ) → place_of h i k ≡ Some e → s.from ≤ e → e < s.from + s.span
    → dot_shapes (dot_at s (acted_in h i k)) top words ≡ Shape.Dotted (record { x = x_at (e - s.from) + 48; y = top + 34 }) words ∷ []

-- ---- which points are shown

-- the whole of a history of that length is to be shown: it has 60 points after the first at most, or the last one is chosen
pub record IsWholeHistory (w : Window) (count : ℕ) : Type 0 where
  pub from : w.from ≡ 0
  pub to : count ≤ w.to
  pub chosen : (count ≤ 60) ⊎ (w.to < 18446744073709551615)
  pub few : count ≤ 4294967295

-- it is shown
abbrev pub WholeHistoriesAreShown : Type 0
WholeHistoriesAreShown = (w : Window) (point count : ℕ) → IsWholeHistory w count → scale_of w point count ≡ record { from = 0; span = count }

-- where no points are chosen, 60 are shown after the first, at most
abbrev pub FewPointsAreShown : Type 0
FewPointsAreShown = (w : Window) (point count : ℕ) → is_open w ≡ true → (scale_of w point count).span ≤ 60

-- the points are shown before and behind the first flaw, if none are chosen
pub record IsWithin (s : Scale) (point : ℕ) : Type 0 where
  pub from : s.from ≤ point
  pub to : point ≤ s.from + s.span

abbrev pub FlawsAreShown : Type 0
FlawsAreShown = (w : Window) (rs : List Record) (flaw : Option Flaw) (count : ℕ) → is_open w ≡ true → flaw_point rs flaw ≤ count → count < 18446744073709551616
    → IsWithin (scale_of w (flaw_point rs flaw) count) (flaw_point rs flaw)
