use Rattle.std.proofs.Common.{◌∙◌, Some}
use Rattle.krb_types.specs.PaEncTsEnc.{pa_enc_ts_enc_short}
use Rattle.client_core.specs.ShortLaws.{stamp_sealed_short, stamp_data_short}
use Rattle.client_core.proofs.requests.timestamp_data.Goals as goal

pub encrypted-requires : goal.encrypted-requires
encrypted-requires c = pa_enc_ts_enc_short (record { patimestamp = c.time.result; pausec = Some c.microseconds.result })

pub write-requires : goal.write-requires
write-requires c = stamp_sealed_short (record { patimestamp = c.time.result; pausec = Some c.microseconds.result }) c.in_ok-sealed.sealed c.in_ok-sealed.ensures.most

pub returns-clause-short : goal.returns-clause-short
returns-clause-short c =
    stamp_data_short (record { patimestamp = c.time.result; pausec = Some c.microseconds.result }) c.in_ok-sealed.sealed c.new.result c.in_ok-sealed.ensures.most
    (c.new.ensures ∙ c.in_ok-write.ensures.written)
