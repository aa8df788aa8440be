-- What is known of a log's requests.
use Rattle.std.specs.Prelude.{ℕ, List}
use Rattle.search_words.specs.WordsView.{WordsView}

-- no request is due before its entry in due
pub record OthersView : Type 0 where
  pub words : WordsView
  pub due : List ℕ
