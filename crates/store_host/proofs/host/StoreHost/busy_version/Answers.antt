use Rattle.store_host.proofs.host.StoreHost.busy_version.Goals as goal

pub busy_version_at-requires : goal.busy_version_at-requires
busy_version_at-requires g c = (c.requires.0, c.requires.1.tables)

pub returns : goal.returns
returns g c w h = c.busy_version_at.ensures w h.tables
