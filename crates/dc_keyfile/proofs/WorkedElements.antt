-- The first elements of the zero seed, computed. Its words begin the published first block of ChaCha20 for a zero key.
use Rattle.std.proofs.Common.{◌≡◌, [], ◌∷◌, map, replicate, refl}
use Rattle.rand_core.specs.Steps.{u32_at}
use Rattle.rand_chacha.specs.Block.{quarter_round, column_round, diagonal_round, double_rounds, block_word}
use Rattle.rand_chacha.specs.ChaCha.{word_at, key_of}
use Rattle.dc_keyfile.specs.Generator.{pair_seed, element_at}

-- the seed of the pair (258, 3)
pair_in_the_seed : pair_seed (replicate 32 9) 258 3 ≡ 9 ∷ 9 ∷ 9 ∷ 9 ∷ 9 ∷ 9 ∷ 9 ∷ 9 ∷ 9 ∷ 9 ∷ 9 ∷ 9 ∷ 9 ∷ 9 ∷ 9 ∷ 9 ∷ 9 ∷ 9 ∷ 9 ∷ 9 ∷ 9 ∷ 9 ∷ 9 ∷ 9 ∷ 9 ∷ 9 ∷ 9 ∷ 9 ∷ 1 ∷ 2 ∷ 0 ∷ 3 ∷ []
pair_in_the_seed = refl

-- its first four words
first_words : map (λ place. word_at 10 (key_of (replicate 32 0)) 0 place) (0 ∷ 1 ∷ 2 ∷ 3 ∷ []) ≡ 0xade0b876 ∷ 0x903df1a0 ∷ 0xe56a5d40 ∷ 0x28bd8653 ∷ []
unfolding u32_at quarter_round column_round diagonal_round double_rounds block_word
first_words = refl

-- and its first two elements
first_elements : map (element_at (replicate 32 0) 0 0) (0 ∷ 1 ∷ []) ≡ 27641 ∷ 54637 ∷ []
unfolding element_at u32_at quarter_round column_round diagonal_round double_rounds block_word
first_elements = refl
