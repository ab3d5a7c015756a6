-- What the words behind options stand for.
use Rattle.std.specs.Prelude.{◌≡◌, ◌==◌, ℕ, ◌≤◌, ◌^◌, List, Some, Bool}
use Rattle.std.specs.List.{AllZip, slice_split}
use Rattle.std.specs.Str.Parse.{IsNumeral, digits_value, without_leading_plus}
use Rattle.clap.specs.Words.{Text}
use Rattle.ovs_address.specs.declared.address.Address.{Address}
use Rattle.ovs_address.specs.Address.{SpellsAddress}
use Rattle.ovs_data.specs.Id.{read_id}

-- the texts between the commas of a word
abbrev pub parts_of : Text → List Text
parts_of word = slice_split (λ byte. byte == 44) word

-- addresses with commas between them; IP addresses of loopback, where no others are allowed
abbrev pub SpellsAddresses : Bool → Text → List Address → Type 0
SpellsAddresses beyond word addresses = AllZip (SpellsAddress beyond) (parts_of word) addresses

-- an id that a commit may have
abbrev pub SpellsCommit : Text → ℕ → Type 0
SpellsCommit word id = (read_id word ≡ Some id) × (2 ^ 64 ≤ id)

-- a row's id
abbrev pub SpellsRow : Text → ℕ → Type 0
SpellsRow word id = read_id word ≡ Some id

-- a number within these bounds, in digits that may have a plus before them
abbrev pub SpellsNumber : ℕ → ℕ → Text → ℕ → Type 0
SpellsNumber least most word n =
    IsNumeral 10 (without_leading_plus word) × (digits_value 10 (without_leading_plus word) ≡ n) × (least ≤ n) × (n ≤ most)
