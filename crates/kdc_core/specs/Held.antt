-- What the contents of a request can be.
use Rattle.krb_types.specs.KdcReq.{Received}
use Rattle.tgs_opening.specs.declared.presented.Presented.{Presented}
use Rattle.tgs_opening.specs.declared.rejection.OpeningRefusal.{OpeningRefusal}

pub data Contents : Type 0 where
  -- neither an AS-REQ nor a TGS-REQ, or too many bytes for one
  NoRequest : Contents
  AsReq : Received → Contents
  -- a TGS-REQ whose ticket or authenticator is refused
  RefusedTgsReq : Received → OpeningRefusal → Contents
  -- a TGS-REQ with the decrypted ticket and authenticator that it presents
  TgsReq : Received → Presented → Contents
