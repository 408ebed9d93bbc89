use Rattle.std.proofs.Common.{◌≡◌, Some, codes, option_map, slice_get, string_bytes, subst}
use Rattle.std.specs.Prelude.{IfSome}
use Rattle.krb5_conf.specs.Values.{library_values}
use Rattle.client_files.proofs.NamedCaches.{named_cache}
use Rattle.client_files.specs.CachePaths.{IsExpanded}
use Rattle.client_files.proofs.configs.Config.cache_path.Goals as goal

pub returns-in-Some-2 : goal.returns-in-Some-2
returns-in-Some-2 c =
    let found = slice_get (library_values (codes "default_ccache_name") c.args.self.now) 0 in
    let there = c.in_ok-file_path.field-0.now in
    let is : Some c.in-Some.name.now ≡ found =
    subst (λ value. option_map (λ text. text.now) value ≡ found) c.in-Some.is c.in_ok-name.ensures in
    let expanded : IsExpanded c.args.user there (string_bytes c.in-Some-2.path) =
    subst (λ value. IfSome value (λ text. IsExpanded c.args.user there (string_bytes text))) c.in-Some-2.is c.in_ok-path.ensures in
    named_cache c.args.user found c.in-Some.name.now there (string_bytes c.in-Some-2.path) is c.in_ok-file_path.ensures expanded
