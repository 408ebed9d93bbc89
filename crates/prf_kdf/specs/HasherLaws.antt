-- The laws that the impls of `Hasher` provide.
use Rattle.std.proofs.Common.{◌≡◌, ℕ, List, length, arith, refl}
use Rattle.sha1.specs.Sha1.{sha1, digest_bytes}
use Rattle.sha2.specs.Sha256.{sha256}
use Rattle.sha2.specs.Sha256.{digest_bytes as digest_bytes_256}
use Rattle.sha2.specs.Sha512.{sha384}
use Rattle.sha2.specs.Sha512.{digest_bytes as digest_bytes_512}
use Rattle.prf_kdf.specs.Hasher.{SizesFit}

pub sha1_fits : SizesFit 64 20
sha1_fits = (omega arith, omega arith, omega arith)

pub sha256_fits : SizesFit 64 32
sha256_fits = (omega arith, omega arith, omega arith)

pub sha384_fits : SizesFit 128 48
sha384_fits = (omega arith, omega arith, omega arith)

pub length-sha1 : (m : List ℕ) → length (sha1 m) ≡ 20
unfolding sha1 digest_bytes
length-sha1 m = refl

pub length-sha256 : (m : List ℕ) → length (sha256 m) ≡ 32
unfolding sha256 digest_bytes_256
length-sha256 m = refl

pub length-sha384 : (m : List ℕ) → length (sha384 m) ≡ 48
unfolding sha384 digest_bytes_512
length-sha384 m = refl
