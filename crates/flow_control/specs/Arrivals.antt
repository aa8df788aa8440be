-- The items of a receive queue with their arrival numbers, and the queue of each class.
use Rattle.std.specs.Prelude.{ℕ, ◌≡◌, ◌+◌, ◌^◌, ◌<◌, ◌≤◌, Bool, true, false, List, [], ◌∷◌, ◌++◌, length, map, nat_lt, slice_get, ◌&&◌, Option, None, Some, if◌then◌else◌}
use Rattle.dllp_core.specs.declared.packet.Class.{Class}
use Rattle.dllp_core.specs.declared.packet.Class.TheVariants.{Posted, NonPosted, Completion}
use Rattle.flow_control.specs.Needs.{class_of}
use Rattle.flow_control.specs.Credits.{same}
use Rattle.flow_control.specs.Queue.{Item}
use Rattle.flow_control.specs.declared.classes.Arrived.{Arrived}
use Rattle.flow_control.specs.declared.classes.Classes.{Classes}
use Rattle.flow_control.specs.declared.classes.Cut.{Cut}

-- a packet and its mark, without the arrival number
abbrev pub item_of : Arrived → Item
item_of x = (x.tlp, x.mark)

abbrev pub class_in : Arrived → Class
class_in x = class_of x.tlp.kind

-- ---- what is lent of a class

-- numbers that rise
abbrev pub Rises : ℕ → List ℕ → Type 0
Rises low [] = Unit {0}
Rises low (n ∷ ns) = (low ≤ n) × Rises (n + 1) ns

-- how many numbers are smaller
abbrev pub smaller : ℕ → List ℕ → ℕ
smaller n [] = 0
smaller n (k ∷ ks) = if nat_lt k n then 1 + smaller n ks else smaller n ks

abbrev pub keep : {X : Type 0} → Bool → X → List X → List X
keep true x xs = x ∷ xs
keep false x xs = xs

-- the items of a class, in their order, each with its arrival number
abbrev pub numbered : Class → List ℕ → List Item → List Arrived
numbered class (n ∷ ns) (item ∷ items) =
    keep (same (class_of item.0.kind) class) (record { arrival = n; tlp = item.0; mark = item.1 }) (numbered class ns items)
numbered class _ _ = []

-- the items of a class: all items have arrival numbers that rise, and these are those of the class
pub record AreItemsOf (queue : List Item) (class : Class) (lent : List Arrived) : Type 0 where
  pub arrivals : List ℕ
  pub rise : Rises 0 arrivals
  pub each : length arrivals ≡ length queue
  pub is_place : (place arrival : ℕ) → slice_get arrivals place ≡ Some arrival → smaller arrival arrivals ≡ place
  pub lends : lent ≡ numbered class arrivals queue

-- ---- the three queues

-- arrival numbers that rise, from low on and below high
abbrev pub IsRising : ℕ → ℕ → List Arrived → Type 0
IsRising low high [] = low ≤ high
IsRising low high (x ∷ xs) = (low ≤ x.arrival) × IsRising (x.arrival + 1) high xs

-- those of a class
abbrev pub of_class : Class → List Arrived → List Arrived
of_class class [] = []
of_class class (x ∷ xs) = keep (same (class_in x) class) x (of_class class xs)

-- one more by its arrival number
abbrev pub placed : Arrived → List Arrived → List Arrived
placed x [] = x ∷ []
placed x (y ∷ ys) = if nat_lt x.arrival y.arrival then x ∷ y ∷ ys else y ∷ placed x ys

-- the items of two queues by their arrival numbers
abbrev pub merged : List Arrived → List Arrived → List Arrived
merged [] ys = ys
merged (x ∷ xs) ys = placed x (merged xs ys)

-- the items of the three queues by their arrival numbers
abbrev pub in_order : Classes → List Arrived
in_order q = merged q.posted.items (merged q.non_posted.items q.completion.items)

-- the queue as its callers see it
abbrev pub items_of : Classes → List Item
items_of q = map item_of (in_order q)

-- each queue has the items of its class
pub record AreParts (all posted non_posted completion : List Arrived) : Type 0 where
  pub is_posted : posted ≡ of_class Posted all
  pub is_non_posted : non_posted ≡ of_class NonPosted all
  pub is_completion : completion ≡ of_class Completion all

-- all items, of which no two have one arrival number, in three queues
pub record IsSplit (all : List Arrived) (q : Classes) : Type 0 where
  pub rises : IsRising 0 q.next all
  pub fits : q.next < 2 ^ 64
  pub parts : AreParts all q.posted.items q.non_posted.items q.completion.items

-- in each queue the arrival numbers rise, no number stands in two, and each item is of its queue's class
abbrev pub IsSound : Classes → Type 0
IsSound q = IsSplit (in_order q) q

abbrev pub list_of : Class → Classes → List Arrived
list_of Posted q = q.posted.items
list_of NonPosted q = q.non_posted.items
list_of Completion q = q.completion.items

-- the queue of a class has other items, and the others stay
abbrev pub HasInstead : Class → List Arrived → Classes → Classes → Type 0
HasInstead Posted items old new = (new.posted.items ≡ items) × (new.non_posted.items ≡ old.non_posted.items) × (new.completion.items ≡ old.completion.items)
HasInstead NonPosted items old new = (new.posted.items ≡ old.posted.items) × (new.non_posted.items ≡ items) × (new.completion.items ≡ old.completion.items)
HasInstead Completion items old new = (new.posted.items ≡ old.posted.items) × (new.non_posted.items ≡ old.non_posted.items) × (new.completion.items ≡ items)

-- ---- a place, as so many items of each class

abbrev pub count_in : Class → Cut → ℕ
count_in Posted cut = cut.posted
count_in NonPosted cut = cut.non_posted
count_in Completion cut = cut.completion

-- one more of a class
abbrev pub past : Class → Cut → Cut
past Posted cut = record { posted = cut.posted + 1; non_posted = cut.non_posted; completion = cut.completion }
past NonPosted cut = record { posted = cut.posted; non_posted = cut.non_posted + 1; completion = cut.completion }
past Completion cut = record { posted = cut.posted; non_posted = cut.non_posted; completion = cut.completion + 1 }

-- the numbers of items of each class
pub record IsCut (before : List Arrived) (cut : Cut) : Type 0 where
  pub is_posted : cut.posted ≡ length (of_class Posted before)
  pub is_non_posted : cut.non_posted ≡ length (of_class NonPosted before)
  pub is_completion : cut.completion ≡ length (of_class Completion before)

-- the first arrival number
abbrev pub first_number : List Arrived → Option ℕ
first_number [] = None
first_number (x ∷ xs) = Some x.arrival

-- the first item's class
abbrev pub first_class : List Arrived → Option Class
first_class [] = None
first_class (x ∷ xs) = Some (class_in x)

-- the first is there, and smaller than the second where there is one
abbrev pub is_older : Option ℕ → Option ℕ → Bool
is_older (Some a) (Some b) = nat_lt a b
is_older (Some a) None = true
is_older None b = false

abbrev pub completion_if : Option ℕ → Option Class
completion_if (Some a) = Some Completion
completion_if None = None

-- the class of the least of three numbers
abbrev pub oldest_of : Option ℕ → Option ℕ → Option ℕ → Option Class
oldest_of posted non_posted completion =
    if is_older posted non_posted && is_older posted completion then Some Posted
    else (if is_older non_posted completion then Some NonPosted else completion_if completion)

-- the first item with another arrival number
abbrev pub renumbered : ℕ → List Arrived → List Arrived
renumbered n [] = []
renumbered n (x ∷ xs) = record { arrival = n; tlp = x.tlp; mark = x.mark } ∷ xs

-- the first items have the numbers from 0 on, as many as stand before a cut; the packets and their order are the same
pub record IsAnew (items : List Item) (count : ℕ) (cut : Cut) (q : Classes) : Type 0 where
  pub done : List Arrived
  pub rest : List Arrived
  pub split : IsSplit (done ++ rest) q
  pub is_cut : IsCut done cut
  pub rises : IsRising 0 count done
  pub number : length done ≡ count
  pub same_items : map item_of (done ++ rest) ≡ items
