-- `profile::valid::Profile::void_names` meets its contract: the names are put into heads that have none.
use Rattle.profile.proofs.Slots.{put_first}
use Rattle.profile.proofs.valid.Profile.void_names.Goals as goal

pub put_names-requires : goal.put_names-requires
put_names-requires c = put_first c.args.self.now.bytes.now
