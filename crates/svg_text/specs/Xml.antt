-- A small grammar of XML: elements that nest, their attributes, and characters between them.
use Rattle.std.specs.Prelude.{ℕ, ◌≡◌, ◌==◌, ◌&&◌, ◌||◌, not, nat_le, Bool, true, false, if◌then◌else◌, List, [], ◌∷◌, ◌++◌, codes, flat_map, bytes_eq}
use Rattle.std.specs.List.{list_any}
use Rattle.std.specs.Fmt.{decimal}

-- a number, numbers with a space between each two, or a text
pub data Value : Type 0 where
  Number : ℕ → Value
  Numbers : List ℕ → Value
  Words : List ℕ → Value

pub record Attribute : Type 0 where
  pub name : List ℕ
  pub value : Value

-- what stands between two tags: characters and elements, one after the other
pub data Content : Type 0 where
  Nothing : Content
  Characters : List ℕ → Content → Content
  Element : List ℕ → List Attribute → Content → Content → Content

-- ---- the text

-- a character as it stands in a text or a value: what marks tags, entities and values is an entity, and what is
-- not printed in ASCII is a question mark
abbrev pub entity : ℕ → List ℕ
entity c =
    if c == 38 then codes "&amp;"
    else (if c == 60 then codes "&lt;"
    else (if c == 62 then codes "&gt;"
    else (if c == 34 then codes "&quot;"
    else (if nat_le 32 c && nat_le c 126 then c ∷ [] else codes "?"))))

abbrev pub escaped : List ℕ → List ℕ
escaped text = flat_map entity text

-- numbers with a space between each two, and then the rest
abbrev pub numbers_before : List ℕ → List ℕ → List ℕ
numbers_before [] rest = rest
numbers_before (n ∷ []) rest = decimal n ++ rest
numbers_before (n ∷ m ∷ ns) rest = decimal n ++ (32 ∷ numbers_before (m ∷ ns) rest)

-- the text of a value, and then the rest
abbrev pub value_before : Value → List ℕ → List ℕ
value_before (Number n) rest = decimal n ++ rest
value_before (Numbers ns) rest = numbers_before ns rest
value_before (Words text) rest = escaped text ++ rest

-- a space, the name, and the value in quotation marks
unfoldable pub attribute_text : Attribute → List ℕ
attribute_text a = 32 ∷ (a.name ++ (codes "=\"" ++ value_before a.value (34 ∷ [])))

abbrev pub attributes_text : List Attribute → List ℕ
attributes_text attributes = flat_map attribute_text attributes

abbrev pub opening : List ℕ → List Attribute → List ℕ
opening name attributes = 60 ∷ (name ++ (attributes_text attributes ++ 62 ∷ []))

abbrev pub closing : List ℕ → List ℕ
closing name = codes "</" ++ (name ++ 62 ∷ [])

abbrev pub text_of : Content → List ℕ
text_of Nothing = []
text_of (Characters text rest) = escaped text ++ text_of rest
text_of (Element name attributes inner rest) = opening name attributes ++ (text_of inner ++ (closing name ++ text_of rest))

-- ---- what marks no tag and no value

-- printed in ASCII, and none of `<`, `>` and `"`
abbrev pub is_plain : ℕ → Bool
is_plain c = (nat_le 32 c && nat_le c 126) && not ((c == 60) || (c == 62) || (c == 34))

abbrev pub is_entity : List ℕ → Bool
is_entity name = bytes_eq name (codes "&amp;") || bytes_eq name (codes "&lt;") || bytes_eq name (codes "&gt;") || bytes_eq name (codes "&quot;")

-- an entity stands first
pub record BeginsWithEntity (text : List ℕ) : Type 0 where
  pub first : List ℕ
  pub rest : List ℕ
  pub is : text ≡ first ++ rest
  pub known : is_entity first ≡ true

-- each character is one of these, and an `&` only where an entity begins
abbrev pub IsPlain : List ℕ → Type 0
IsPlain [] = Unit {0}
IsPlain (c ∷ cs) = (is_plain c ≡ true) × (c ≡ 38 → BeginsWithEntity (c ∷ cs)) × IsPlain cs

-- ---- what is well formed

abbrev pub is_letter : ℕ → Bool
is_letter c = (nat_le 65 c && nat_le c 90) || (nat_le 97 c && nat_le c 122)

abbrev pub is_digit : ℕ → Bool
is_digit c = nat_le 48 c && nat_le c 57

abbrev pub are_of_names : List ℕ → Bool
are_of_names [] = true
are_of_names (c ∷ cs) = (is_letter c || is_digit c || (c == 45)) && are_of_names cs

-- a letter, and after it letters, digits and hyphens
abbrev pub is_name : List ℕ → Bool
is_name [] = false
is_name (c ∷ cs) = is_letter c && are_of_names cs

-- each has a name, and no two have one name
abbrev pub are_attributes : List Attribute → Bool
are_attributes [] = true
are_attributes (a ∷ attributes) = is_name a.name && (not (list_any (λ b. bytes_eq a.name b.name) attributes) && are_attributes attributes)

abbrev pub IsWellFormed : Content → Type 0
IsWellFormed Nothing = Unit {0}
IsWellFormed (Characters text rest) = IsWellFormed rest
IsWellFormed (Element name attributes inner rest) = (is_name name ≡ true) × (are_attributes attributes ≡ true) × IsWellFormed inner × IsWellFormed rest

-- one element, and a line feed after it
pub record IsDocument (text : List ℕ) : Type 0 where
  pub name : List ℕ
  pub attributes : List Attribute
  pub inner : Content
  pub well_formed : IsWellFormed (Element name attributes inner Nothing)
  pub is : text ≡ text_of (Element name attributes inner Nothing) ++ 10 ∷ []
