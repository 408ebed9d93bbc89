-- PA-ENC-TS-ENC (RFC 4120, section 5.2.7.2).
use Rattle.std.proofs.Common.{ℕ, ◌+◌, ◌<◌, ◌≤◌, ◌^◌, length, Option, Some, None, refl, arith}
use Rattle.krb_elements.specs.Codec.{Codec, Record, field, optional, end, sequence, microseconds, time}
use Rattle.krb_elements.specs.TextLengthLaws.{most_maybe}
use Rattle.krb_types.specs.declared.pa_enc_ts_enc.PaEncTsEnc as trees

abbrev pub PaEncTsEnc : Type 0
PaEncTsEnc = trees.PaEncTsEnc

unfoldable pub pa_enc_ts_enc_form : Record trees.PaEncTsEnc
pa_enc_ts_enc_form = record {
  fields =
      field 0 (λ x. x.patimestamp) time
      (optional 1 (λ x. x.pausec) microseconds
      end);
  to = λ (patimestamp, (pausec, _)). record { patimestamp = patimestamp; pausec = pausec };
  there = λ v. refl;
  back = λ x. refl;
  rising = refl;
}

abbrev pub pa_enc_ts_enc : Codec PaEncTsEnc
pa_enc_ts_enc = sequence pa_enc_ts_enc_form

-- it is always short enough to encode
pub pa_enc_ts_enc_short : (x : PaEncTsEnc) → length (pa_enc_ts_enc.text x) < 2 ^ 32
unfolding pa_enc_ts_enc_form
pa_enc_ts_enc_short x = timestamp_short x.pausec (pa_enc_ts_enc.bounded x)
  where
    timestamp_short : (o : Option ℕ) → length (pa_enc_ts_enc.text x) ≤ 15 + 12 + (most_maybe (λ n. 8) o + 0)
        → length (pa_enc_ts_enc.text x) < 2 ^ 32
    timestamp_short None le = omega (arith, le)
    timestamp_short (Some n) le = omega (arith, le)
