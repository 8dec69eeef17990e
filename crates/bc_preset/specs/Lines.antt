-- The lines of a configuration, one by one. A line is a list of bytes without its line feed.
use Rattle.std.specs.Prelude.{ℕ, ◌+◌, ◌-◌, Bool, true, false, ◌&&◌, ◌||◌, ◌==◌, if◌then◌else◌, List, [], ◌∷◌, length, take, drop, take_while, Option, Some, None}
use Rattle.std.specs.List.{prefix_len, suffix_len, position}
use Rattle.std.specs.Char.{is_ascii_alphanumeric}
use Rattle.bc_preset.specs.declared.keys.Key.{Key}
use Rattle.bc_preset.specs.Keys.{key_named}

-- a space or a tab
abbrev pub is_blank : ℕ → Bool
is_blank b = b == 32 || b == 9

-- a letter, a digit or `_`
abbrev pub is_key_byte : ℕ → Bool
is_key_byte b = is_ascii_alphanumeric b || b == 95

-- `'` or `"`
abbrev pub is_quote : ℕ → Bool
is_quote b = b == 39 || b == 34

-- the bytes begin with `#`
abbrev pub begins_comment : List ℕ → Bool
begins_comment [] = false
begins_comment (b ∷ bytes) = b == 35

-- without the bytes in front that pass the test
abbrev pub skip_while : (ℕ → Bool) → List ℕ → List ℕ
skip_while p bytes = drop (prefix_len p bytes) bytes

-- without the spaces and tabs at the end
unfoldable pub trim_end : List ℕ → List ℕ
trim_end text = take (length text - suffix_len is_blank text) text

-- nothing, or a comment
abbrev pub is_empty_or_comment : List ℕ → Bool
is_empty_or_comment [] = true
is_empty_or_comment (b ∷ bytes) = b == 35

-- spaces and tabs alone, or these and then a comment
unfoldable pub is_skipped : List ℕ → Bool
is_skipped line = is_empty_or_comment (skip_while is_blank line)

-- what stands before the first space or tab that a `#` follows, or all
unfoldable pub before_comment : List ℕ → List ℕ
before_comment [] = []
before_comment (b ∷ bytes) = if is_blank b && begins_comment bytes then [] else b ∷ before_comment bytes

-- the bytes before their closing quote at `end`, if nothing but spaces, tabs and a comment stands behind it
abbrev pub closed : List ℕ → Option ℕ → Option (List ℕ)
closed bytes None = None
closed bytes (Some end) = if is_skipped (drop (end + 1) bytes) then Some (take end bytes) else None

-- what stands between an opening quote and the next such quote
unfoldable pub quoted : ℕ → List ℕ → Option (List ℕ)
quoted quote bytes = closed bytes (position (λ b. b == quote) bytes)

-- the value in a text that no space or tab begins: in quotes, or up to a comment or the end
unfoldable pub value_from : List ℕ → Option (List ℕ)
value_from [] = Some []
value_from (first ∷ bytes) = if is_quote first then quoted first bytes else Some (trim_end (before_comment (first ∷ bytes)))

-- the value in what follows a key's colon; none where its quotes are wrong
unfoldable pub value_of : List ℕ → Option (List ℕ)
value_of text = value_from (skip_while is_blank text)

-- what a line is: skipped; a key that is not in the table; a key of the table with its value; or none of these
pub data Line : Type 0 where
  skipped : Line
  other : Line
  setting : Key → List ℕ → Line
  faulty : Line

abbrev pub setting_of : Key → Option (List ℕ) → Line
setting_of key None = faulty
setting_of key (Some value) = setting key value

-- a key, and what follows its colon
abbrev pub keyed : Option Key → List ℕ → Line
keyed None text = other
keyed (Some key) text = setting_of key (value_of text)

-- behind the colon stands a space, a tab or the end of the line
abbrev pub begins_value : List ℕ → Bool
begins_value [] = true
begins_value (b ∷ bytes) = is_blank b

-- the bytes of a key from the line's start on, and what follows them
unfoldable pub key_line : List ℕ → List ℕ → Line
key_line [] rest = faulty
key_line (b ∷ name) [] = faulty
key_line (b ∷ name) (colon ∷ text) = if colon == 58 && begins_value text then keyed (key_named (b ∷ name)) text else faulty

-- what the line is
unfoldable pub line_of : List ℕ → Line
line_of line = if is_skipped line then skipped else key_line (take_while is_key_byte line) (skip_while is_key_byte line)
