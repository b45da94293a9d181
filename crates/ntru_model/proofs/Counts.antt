-- How many bytes both sets have of each thing.
use Rattle.std.proofs.Common.{◌≡◌, ◌+◌, refl, ap}
use Rattle.ntru_codec.specs.Mixed.{given_off, left_over, round_bytes, next_round, encoding_in}
use Rattle.ntru_model.specs.Parameters.{sntrup761, drill37, public_len, core_len, secret_len, cipher_len}

pub large_public : public_len sntrup761 ≡ 1158
unfolding given_off left_over round_bytes next_round encoding_in
large_public = refl

pub large_core : core_len sntrup761 ≡ 1007
unfolding given_off left_over round_bytes next_round encoding_in
large_core = refl

pub large_secret : secret_len sntrup761 ≡ 1763
large_secret = ap (λ n. 191 + 191 + n + 191 + 32) large_public

pub large_cipher : cipher_len sntrup761 ≡ 1039
large_cipher = ap (λ n. n + 32) large_core

pub little_public : public_len drill37 ≡ 33
unfolding given_off left_over round_bytes next_round encoding_in
little_public = refl

pub little_core : core_len drill37 ≡ 26
unfolding given_off left_over round_bytes next_round encoding_in
little_core = refl

pub little_secret : secret_len drill37 ≡ 95
little_secret = ap (λ n. 10 + 10 + n + 10 + 32) little_public

pub little_cipher : cipher_len drill37 ≡ 58
little_cipher = ap (λ n. n + 32) little_core
