-- Places in a list of numbers: which is the last one of a number, and links by which each is found.
use Rattle.std.specs.Prelude.{◌≡◌, ℕ, ◌+◌, ◌≤◌, ◌<◌, List, length, map, slice_get, Option, Some, None}
use Rattle.std.specs.Option.{option_flatten}
use Rattle.scope_map.specs.declared.places.Link.{Link}

-- how many items stand up to a place and with it
abbrev pub up_to : Option ℕ → ℕ
up_to None = 0
up_to (Some place) = place + 1

-- a place is the last of a number among the first `count`, or there is none of it; `at` tells what stands at each place
pub record IsLastOf (at : ℕ → Option ℕ) (number count : ℕ) (place : Option ℕ) : Type 0 where
  pub within : up_to place ≤ count
  pub has : (i : ℕ) → place ≡ Some i → at i ≡ Some number
  pub behind : (i : ℕ) → up_to place ≤ i → i < count → at i ≡ Some number → ⊥

-- the numbers of links
abbrev pub numbers_of : List Link → List ℕ
numbers_of links = map (λ link. link.number) links

-- each link tells the last place before it of its number, and `ends` tells the last place of each number
pub record IsLinked (links : List Link) (ends : ℕ → Option (Option ℕ)) : Type 0 where
  pub each : (i : ℕ) (link : Link) → slice_get links i ≡ Some link → IsLastOf (slice_get (numbers_of links)) link.number i link.before
  pub last : (number : ℕ) → IsLastOf (slice_get (numbers_of links)) number (length links) (option_flatten (ends number))
