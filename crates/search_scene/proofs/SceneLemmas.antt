-- What the parts of a scene show, it shows.
use Rattle.std.proofs.Common.{◌≡◌, ◌≤◌, ℕ, List, length, All, subst, arith}
use Rattle.seq_memory.specs.Entries.{Entry}
use Rattle.history_words.specs.TraceView.{TraceView}
use Rattle.trace_diagnostics.specs.Told.{TraceLinesView}
use Rattle.search_picture.specs.declared.scene.Scene.{Scene}
use Rattle.search_scene.specs.Scenes.{Page, IsBar, IsHistoryOf, Joins, Shows, places_of, title_of}

pub shows : (t : TraceView) (place named : ℕ) (own lines : TraceLinesView) (columns : List ℕ) (h shown : List Entry) (s : Scene) (submitted : ℕ)
    → s.title.items ≡ title_of named → s.places.items ≡ places_of own named → named ≡ place → IsHistoryOf t place h → own ≡ lines → columns ≡ s.columns.items → shown ≡ h
    → All (IsBar (record { trace = t; lines = own; last = named; columns = columns; history = shown })) s.requests.items
    → length s.requests.items ≤ 20 → submitted ≡ length s.requests.items → All (Joins submitted) s.arrows.items
    → Shows t place lines s
shows t place named own lines columns h shown s submitted title places is explained same stand known bars few each arrows = record {
  title = subst (λ (n : ℕ). s.title.items ≡ title_of n) is title;
  places = subst (λ (n : ℕ). s.places.items ≡ places_of lines n) is (subst (λ (ls : TraceLinesView). s.places.items ≡ places_of ls named) same places);
  history = h;
  explained = explained;
  bars = subst (λ (p : Page). All (IsBar p) s.requests.items) (λ i. record { trace = t; lines = same i; last = is i; columns = stand i; history = known i }) bars;
  few = few;
  arrows = subst (λ (n : ℕ). All (Joins n) s.arrows.items) each arrows;
}
