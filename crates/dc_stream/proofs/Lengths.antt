-- What the length of payload tells of it.
use Rattle.std.proofs.Common.{◌≡◌, ℕ, List, length, Option, Some, None, refl}
use Rattle.std.specs.Prelude.{option_map}

-- no length, no payload
pub no_payload : (o : Option (List ℕ)) → None ≡ option_map length o → o ≡ None
no_payload None e = refl
no_payload (Some bytes) e = absurd cc

-- a length is that of some bytes
pub payload_of_length : (o : Option (List ℕ)) (n : ℕ) → Some n ≡ option_map length o → (bytes : List ℕ) × (o ≡ Some bytes) × (length bytes ≡ n)
payload_of_length None n e = absurd cc
payload_of_length (Some bytes) n e = (bytes, refl, cc)
