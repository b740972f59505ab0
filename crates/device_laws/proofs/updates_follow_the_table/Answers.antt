use Rattle.device_laws.proofs.Rows.{table_version}
use Rattle.device_laws.proofs.Updates.{update_follows}
use Rattle.device_laws.proofs.Asked.{update_is}
use Rattle.device_laws.proofs.updates_follow_the_table.Goals as goal

pub returns-clause-update : goal.returns-clause-update
returns-clause-update c = λ schema d disk request valid st none client fits cells row spelled there. update_is schema d disk st request valid fits cells row spelled there client

pub returns-clause-follows : goal.returns-clause-follows
returns-clause-follows c = λ schema d disk request from table some client number fits st none spelled there. update_follows schema d disk st none request spelled there client number fits from table

pub returns-clause-version : goal.returns-clause-version
returns-clause-version c = λ schema d disk st. table_version schema.chunk disk.items d.held st.held.numbered st.held.rows
