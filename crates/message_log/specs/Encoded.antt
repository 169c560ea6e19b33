-- A log as the encoding of a list of messages.
use Rattle.std.specs.Prelude.{◌≡◌, ℕ, true, List, [], ◌∷◌, map, length}
use Rattle.protocol.specs.declared.message.Message.{Message}
use Rattle.message_log.specs.Layout.{well_formed, capacity_of, count_of}
use Rattle.message_log.specs.Log.{entries, stored_as, added, cleared}

-- the bytes after these messages are added one after the other, each at the count
unfoldable pub with_all : List ℕ → List (Message ℕ) → List ℕ
with_all bytes [] = bytes
with_all bytes (m ∷ messages) = with_all (added bytes (stored_as m)) messages

-- a log with room for c entries that has these messages
abbrev pub encoding : (c : ℕ) → List (Message ℕ) → List ℕ
encoding c messages = with_all (cleared c) messages

-- The bytes are the encoding of these messages: every byte; so they are a log with room for c entries, with as many entries
-- as there are messages, and each entry is the kind and the body of its message.
pub record Encodes (c : ℕ) (messages : List (Message ℕ)) (bytes : List ℕ) : Type 0 where
  pub encoded : bytes ≡ encoding c messages
  pub log : well_formed bytes ≡ true
  pub room : capacity_of bytes ≡ c
  pub many : count_of bytes ≡ length messages
  pub stored : entries bytes ≡ map stored_as messages
