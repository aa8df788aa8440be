-- What occurs among shapes, as far as a legend says what it means.
use Rattle.std.specs.Prelude.{ℕ, ◌||◌, Bool, true, false, List, Option, is_some}
use Rattle.std.specs.List.{list_any}
use Rattle.svg_text.specs.declared.colour.Colour.{Colour}
use Rattle.svg_text.specs.declared.colour.Colour.TheVariants as colours
use Rattle.svg_text.specs.Shapes.{Shape}
use Rattle.history_bars.specs.declared.signs.Signs.{Signs}

-- both are the colour of one kind of operations
abbrev pub is_kind : Colour → Colour → Bool
is_kind colours.SkyBlue colours.SkyBlue = true
is_kind colours.Orange colours.Orange = true
is_kind colours.Green colours.Green = true
is_kind colours.Yellow colours.Yellow = true
is_kind colours.Purple colours.Purple = true
is_kind _ _ = false

-- a bar or an entry of that kind
abbrev pub is_of_kind : Colour → Shape → Bool
is_of_kind kind (Shape.Filled b text) = is_kind kind b.fill
is_of_kind kind (Shape.Dotted d text) = false
is_of_kind kind (Shape.Lined rs text) = false
is_of_kind kind (Shape.Written l text) = false

abbrev pub is_dot : Shape → Bool
is_dot (Shape.Filled b text) = false
is_dot (Shape.Dotted d text) = true
is_dot (Shape.Lined rs text) = false
is_dot (Shape.Written l text) = false

abbrev pub is_open_bar : Shape → Bool
is_open_bar (Shape.Filled b text) = b.is_open
is_open_bar (Shape.Dotted d text) = false
is_open_bar (Shape.Lined rs text) = false
is_open_bar (Shape.Written l text) = false

-- what occurs among these shapes
unfoldable pub signs_of : List Shape → Signs
signs_of ss = record {
  reads = list_any (is_of_kind colours.SkyBlue) ss;
  writes = list_any (is_of_kind colours.Orange) ss;
  adds = list_any (is_of_kind colours.Green) ss;
  swaps = list_any (is_of_kind colours.Yellow) ss;
  cas = list_any (is_of_kind colours.Purple) ss;
  dots = list_any is_dot ss;
  opens = list_any is_open_bar ss;
}

-- what occurs here or there
unfoldable pub joined : Signs → Signs → Signs
joined a b = record {
  reads = a.reads || b.reads;
  writes = a.writes || b.writes;
  adds = a.adds || b.adds;
  swaps = a.swaps || b.swaps;
  cas = a.cas || b.cas;
  dots = a.dots || b.dots;
  opens = a.opens || b.opens;
}

-- what a bar of that colour has, and its dot, if it is shown
unfoldable pub bar_signs : Colour → Bool → Option ℕ → Signs
bar_signs fill is_open dot = record {
  reads = is_kind colours.SkyBlue fill;
  writes = is_kind colours.Orange fill;
  adds = is_kind colours.Green fill;
  swaps = is_kind colours.Yellow fill;
  cas = is_kind colours.Purple fill;
  dots = is_some dot;
  opens = is_open;
}
