-- What the options of a command line are called, which numbers they may have, and what their values write.
use Rattle.std.specs.Prelude.{◌≡◌, ◌≤◌, ◌%◌, ℕ, Bool, false, List, length, Option, Some, None, IfSome, codes, bytes_eq}
use Rattle.std.specs.Str.Parse.{IsNumeral, digits_value}
use Rattle.seq_memory.specs.declared.limits.TheConstants.{MIN_SIZE, MAX_SIZE, SMALL_BLOCK, LARGE_BLOCK}
use Rattle.tlp_core.specs.declared.packet.TheConstants.{REQUESTERS}
use Rattle.parameters.specs.declared.plan.TheConstants.{MOST}
use Rattle.parameters.specs.declared.counting.TheConstants.{MOST_ADDITIONS, MOST_TURNS, MOST_WORKERS}
use Rattle.parameters.specs.declared.storm.TheConstants.{MOST_EVENTS}
use Rattle.cli_options.specs.declared.options.TheConstants.{MOST_CHOICES, MOST_WORK}
use Rattle.cli_options.specs.declared.options.Allowed.{Allowed}
use Rattle.cli_options.specs.declared.options.ValueOption.{ValueOption}
use Rattle.cli_options.specs.declared.options.ValueOption.TheVariants.{Base, Size, Block, Requesters, Each, Lose, Corrupt, Turns, Workers, From, To, Seed, Seeds, Events, Lane, Limit, Work, Granularity, EndpointSize, Id, Crc, Credits, Draw}

abbrev pub name_of : ValueOption → List ℕ
name_of Base = codes "base"
name_of Size = codes "size"
name_of Block = codes "block"
name_of Requesters = codes "requesters"
name_of Each = codes "each"
name_of Lose = codes "lose"
name_of Corrupt = codes "corrupt"
name_of Turns = codes "turns"
name_of Workers = codes "workers"
name_of From = codes "from"
name_of To = codes "to"
name_of Seed = codes "seed"
name_of Seeds = codes "seeds"
name_of Events = codes "events"
name_of Lane = codes "lane"
name_of Limit = codes "limit"
name_of Work = codes "work"
name_of Granularity = codes "granularity"
name_of EndpointSize = codes "size"
name_of Id = codes "id"
name_of Crc = codes "crc"
name_of Credits = codes "credits"
name_of Draw = codes "draw"

-- the multiples of a unit from one number to another
abbrev pub multiples : ℕ → ℕ → ℕ → Allowed
multiples unit least most = record { least = least; most = most; unit = unit }

-- the numbers that an option may have; for a lane, a granularity, what an endpoint is made with and a flag no number counts
abbrev pub allowed_of : ValueOption → Allowed
allowed_of Base = multiples LARGE_BLOCK 0 18446744073709551615
allowed_of Size = multiples LARGE_BLOCK MIN_SIZE MAX_SIZE
allowed_of Block = multiples SMALL_BLOCK SMALL_BLOCK LARGE_BLOCK
allowed_of Requesters = multiples 1 1 REQUESTERS
allowed_of Each = multiples 1 0 MOST_ADDITIONS
allowed_of Lose = multiples 1 0 MOST
allowed_of Corrupt = multiples 1 0 MOST
allowed_of Turns = multiples 1 1 MOST_TURNS
allowed_of Workers = multiples 1 1 MOST_WORKERS
allowed_of From = multiples 1 0 18446744073709551615
allowed_of To = multiples 1 0 18446744073709551615
allowed_of Seed = multiples 1 0 18446744073709551615
allowed_of Seeds = multiples 1 0 18446744073709551615
allowed_of Events = multiples 1 0 MOST_EVENTS
allowed_of Lane = multiples 1 0 0
allowed_of Limit = multiples 1 1 MOST_CHOICES
allowed_of Work = multiples 1 1 MOST_WORK
allowed_of Granularity = multiples 1 0 0
allowed_of EndpointSize = multiples 1 0 0
allowed_of Id = multiples 1 0 0
allowed_of Crc = multiples 1 0 0
allowed_of Credits = multiples 1 0 0
allowed_of Draw = multiples 1 0 0

pub record IsAmong (a : Allowed) (n : ℕ) : Type 0 where
  pub least : a.least ≤ n
  pub most : n ≤ a.most
  pub multiple : n % a.unit ≡ 0

-- a base is written in 1 to 16 hexadecimal digits, and is 0 where none is given
abbrev pub WritesBase : Option (List ℕ) → ℕ → Type 0
WritesBase None base = base ≡ 0
WritesBase (Some text) base = (length text ≤ 16) × IsNumeral 16 text × (base ≡ digits_value 16 text)

-- a number is written in decimal digits, and is the default where none is given
abbrev pub WritesNumber : ℕ → Option (List ℕ) → ℕ → Type 0
WritesNumber default None n = n ≡ default
WritesNumber default (Some text) n = IsNumeral 10 text × (n ≡ digits_value 10 text)

-- a number that has to be given
abbrev pub WritesGiven : Option (List ℕ) → ℕ → Type 0
WritesGiven None n = ⊥
WritesGiven (Some text) n = IsNumeral 10 text × (n ≡ digits_value 10 text)

-- a number that has a default, or has to be given
abbrev pub Writes : Option ℕ → Option (List ℕ) → ℕ → Type 0
Writes (Some default) = WritesNumber default
Writes None = WritesGiven

-- a number that need not be given
abbrev pub WritesOptional : Option (List ℕ) → Option ℕ → Type 0
WritesOptional text None = text ≡ None
WritesOptional text (Some n) = WritesGiven text n

-- the value of a base gives this one, an aligned address
abbrev pub GivesBase : Option (List ℕ) → ℕ → Type 0
GivesBase text base = WritesBase text base × IsAmong (allowed_of Base) base

-- the option's value gives this number, one that it may have
abbrev pub Gives : ValueOption → Option ℕ → Option (List ℕ) → ℕ → Type 0
Gives option default text n = Writes default text n × IsAmong (allowed_of option) n

-- the option's value, if it has one, gives this number, one that it may have
abbrev pub GivesOptional : ValueOption → Option (List ℕ) → Option ℕ → Type 0
GivesOptional option text n = WritesOptional text n × IfSome n (IsAmong (allowed_of option))

-- a flag is set exactly where its value is `true`
abbrev pub WritesFlag : Option (List ℕ) → Bool → Type 0
WritesFlag None b = b ≡ false
WritesFlag (Some text) b = b ≡ bytes_eq text (codes "true")
