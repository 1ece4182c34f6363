-- What the bytes of a key and of a payload are.
use Rattle.std.specs.Prelude.{ℕ, ◌<◌, ◌≤◌, List, length, All}
use Rattle.bz_key.specs.declared.limits.TheConstants.{KEY_BYTES, PAYLOAD_BYTES}

-- each number is a byte
abbrev pub AreBytes : List ℕ → Type 0
AreBytes bytes = All (λ b. b < 256) bytes

-- the bytes of a key
pub record IsKey (bytes : List ℕ) : Type 0 where
  pub some : 0 < length bytes
  pub fits : length bytes ≤ KEY_BYTES
  pub each : AreBytes bytes

-- the bytes of a payload
pub record IsPayload (bytes : List ℕ) : Type 0 where
  pub fits : length bytes ≤ PAYLOAD_BYTES
  pub each : AreBytes bytes
