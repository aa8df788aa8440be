-- What requests of a log need of each word, and leave there.
use Rattle.std.specs.Prelude.{ℕ, List}
use Rattle.search_words.specs.ListsView.{ListsView}

pub record WordsView : Type 0 where
  pub needed : ListsView
  pub careless : ListsView
  pub blind : ListsView
  pub left : ListsView
  pub loose : ListsView
  pub named : ListsView
  pub wide : List ℕ
