-- What the values of options write that put an endpoint behind a link.
use Rattle.std.specs.Prelude.{◌≡◌, true, false, Bool, List, None, codes}
use Rattle.clap.specs.Words.{Row, first_of}
use Rattle.flow_control.specs.declared.limits.LaneCredits.{LaneCredits}
use Rattle.cli_options.specs.Values.{WritesFlag}
use Rattle.cli_values.specs.Links.{WritesCredits}

-- without a link there are no CRCs, and no credits
pub record IsUnlinked (rows : List Row) : Type 0 where
  pub link_read : WritesFlag (first_of (codes "link") rows) false
  pub crc_read : WritesFlag (first_of (codes "crc") rows) false
  pub credits_read : first_of (codes "credits") rows ≡ None

-- behind a link that has CRCs or none, with these credits
pub record IsLinked (rows : List Row) (ours : LaneCredits) (has_crc : Bool) : Type 0 where
  pub link_read : WritesFlag (first_of (codes "link") rows) true
  pub crc_read : WritesFlag (first_of (codes "crc") rows) has_crc
  pub credits_read : WritesCredits (first_of (codes "credits") rows) ours
