use Rattle.std.proofs.Common.{rules, ◌≡◌, []}
use Rattle.cred_files.specs.Cache.{put_first}
use Rattle.client_files.proofs.NewCaches.{made}
use Rattle.client_files.proofs.cache_files.make_cache.Goals as goal

pub returns : goal.returns
returns c =
    let old = c.in_ok-cache.cache in
    let realm_is : c.as_slice.result.now ≡ c.args.credential.now.client.realm = search rules in
    let old_is : old ≡ record { header = []; principal = record { realm = c.as_slice.result.now; name = c.args.credential.now.client.name }; credentials = [] } = search rules in
    let new_is : c.put.new.self ≡ record old { credentials = put_first c.args.credential.now old.credentials } = search rules in
    made c.args.credential.now old c.put.new.self c.as_slice.result.now realm_is old_is new_is
